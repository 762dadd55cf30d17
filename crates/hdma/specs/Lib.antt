-- H-blank DMA of one channel: the unit's state, table entries, a line.
pub mod Engine
pub mod Entry
pub mod Line
pub mod Lent
