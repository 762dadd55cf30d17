-- The record's slots, and the table of refusals.
pub mod Slots
pub mod Refusal
