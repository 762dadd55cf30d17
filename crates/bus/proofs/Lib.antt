pub mod Adds
pub mod Channels
pub mod FitLaws
pub mod Seen
pub mod Ports
