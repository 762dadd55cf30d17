-- What a call leaves, and what rejected cores are tried on.
pub mod Outcome
pub mod Tried
