-- Who makes an access, and what it reaches: the words of a listing of moves.
pub mod Who
pub mod Reach
