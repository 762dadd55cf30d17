-- The text form of a bench, read one character at a time.
pub mod Letter
pub mod Word
pub mod Draft
pub mod Number
pub mod Line
pub mod Reader
