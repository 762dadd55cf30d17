pub mod Join
pub mod Placed
