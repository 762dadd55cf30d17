-- The public calls in bytes, as they cross to another language.
pub mod Calls
