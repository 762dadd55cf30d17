-- A script row run on a bench.
pub mod Rig
pub mod Run
pub mod Row
