pub mod Head
pub mod Beside
pub mod Join
