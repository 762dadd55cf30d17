pub mod Join
pub mod Repeat
