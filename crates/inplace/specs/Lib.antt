-- Cycles made on the machine's bytes where they stand.
pub mod Rest
pub mod OneByte
