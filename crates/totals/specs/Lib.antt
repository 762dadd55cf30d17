-- The limit of a total; one place of a column, a column, a folder with one file more, a mean; one figure over a list of files, and the folder made of them.
pub mod Limit
pub mod Place
pub mod Column
pub mod Folder
pub mod Mean
pub mod Over
pub mod Files
