pub mod Join
pub mod Most
pub mod Whole
pub mod Sums
