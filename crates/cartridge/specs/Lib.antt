-- The cartridge: byte or silence, and its cost.
pub mod Cartridge
