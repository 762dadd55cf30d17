pub mod Who
pub mod Replay
pub mod Accesses
pub mod Moves
pub mod Turns
pub mod Cycle
