pub mod Lengths
