pub mod Adds
pub mod Ranges
pub mod FitLaws
