-- Which way a cycle goes, by the machine's bytes.
pub mod Seen
pub mod Way
