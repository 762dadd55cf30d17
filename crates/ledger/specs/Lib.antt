-- The text of a folder's figures: the figures' names, one line of the table, the table, and the line of a file.
pub mod Name
pub mod Figure
pub mod Table
