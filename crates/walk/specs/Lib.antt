-- A script run call by call.
pub mod Call
pub mod Stand
pub mod Step
