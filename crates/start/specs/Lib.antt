-- A bench file before its first row, and the RAM fill.
pub mod Fill
pub mod Start
