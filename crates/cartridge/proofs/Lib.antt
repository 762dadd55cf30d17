pub mod Answer
pub mod Repeat
