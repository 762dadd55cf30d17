-- A listing of moves (docs/MOVES.md): where operations came from, the lines of a call, the script listed step by step.
pub mod Origin
pub mod Text
pub mod Steps
