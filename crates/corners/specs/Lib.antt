-- Document 01's corners.
pub mod Corners
