-- The line of a trace and of the sums, and the refusals in words.
pub mod Line
pub mod Words
