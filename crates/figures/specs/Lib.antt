-- The figures of one file.
pub mod Count
