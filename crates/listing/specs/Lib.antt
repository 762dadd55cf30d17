-- The lines of a listing of moves: one for each access, NMI edge, row of cycles, back row and refusal.
pub mod Line
pub mod Cycle
pub mod Event
