pub mod Join
pub mod Rows
