-- A bench file run and shown: a row, the rows, the whole texts.
pub mod Row
pub mod Rows
pub mod Trace
