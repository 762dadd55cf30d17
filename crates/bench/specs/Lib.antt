-- The public calls: what the host changes, page look, the calls.
pub mod Host
pub mod Page
pub mod Calls
