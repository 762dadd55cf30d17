pub mod Adds
pub mod FitLaws
pub mod Ranges
pub mod Quiet
pub mod Before
pub mod Plain
