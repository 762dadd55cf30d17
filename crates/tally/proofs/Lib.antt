pub mod Join
pub mod Totals
pub mod Writes
pub mod Wrong
