pub mod Join
pub mod Looked
pub mod Accepted
