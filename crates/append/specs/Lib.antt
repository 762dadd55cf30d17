-- Bytes put one after the other into a lent buffer.
pub mod Sheet
pub mod Lent
pub mod Number
pub mod Texts
