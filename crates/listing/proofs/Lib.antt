pub mod Every
pub mod Loop
pub mod Lengths
