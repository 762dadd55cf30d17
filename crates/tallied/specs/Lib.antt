-- What the figures are.
pub mod Tied
pub mod History
