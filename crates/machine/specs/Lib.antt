-- One master cycle, its events, so many plain ones in a row, and power-on.
pub mod Event
pub mod Cycle
pub mod Plain
pub mod PowerOn
pub mod Lent
