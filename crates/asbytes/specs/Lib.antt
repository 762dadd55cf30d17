-- The machine and a cycle's answer, as bytes.
pub mod Places
pub mod Machine
pub mod Answer
pub mod Crossed
