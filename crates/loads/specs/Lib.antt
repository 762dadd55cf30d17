-- A whole transfer: plain cycles in a row by the public call; what a load moves and costs; the promise.
pub mod Calls
pub mod Load
pub mod Promise
pub mod Example
