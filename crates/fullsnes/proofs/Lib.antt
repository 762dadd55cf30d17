pub mod Views
pub mod Patterns
pub mod Count
pub mod Address
pub mod Tables
