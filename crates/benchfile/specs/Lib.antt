-- Bench files: rows, the file and its sections, and how one is put together.
pub mod Row
pub mod File
pub mod Build
