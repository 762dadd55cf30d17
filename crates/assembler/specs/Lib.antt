-- A bench file from its text: the bytes that the text says, and how they are put together.
pub mod Desk
pub mod Bind
pub mod Assemble
