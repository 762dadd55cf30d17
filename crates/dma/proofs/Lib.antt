pub mod Adds
pub mod Ranges
pub mod FitLaws
pub mod Quiet
pub mod OneByte
pub mod Steps
