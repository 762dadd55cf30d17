-- One byte, one HDMA unit and the bytes of a table.
pub mod Bits
pub mod Pattern
pub mod Byte
pub mod Table
pub mod Unit
