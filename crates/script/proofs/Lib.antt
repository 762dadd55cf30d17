pub mod Join
pub mod Sums
