-- Where a message points to: the line and the word of a text at which it fails, and the name of a ROM file.
pub mod Mark
pub mod Name
