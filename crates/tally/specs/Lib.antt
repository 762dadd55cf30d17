-- What each channel moved.
pub mod Figure
pub mod Share
pub mod Alive
pub mod Run
pub mod File
