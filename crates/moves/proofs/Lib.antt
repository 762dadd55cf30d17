pub mod Join
pub mod Most
