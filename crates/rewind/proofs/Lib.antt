pub mod Slots
pub mod Good
pub mod Calls
pub mod Rewinds
pub mod Unrefused
pub mod Fresh
pub mod Demand
pub mod Lent
