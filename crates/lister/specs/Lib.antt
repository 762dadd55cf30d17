-- A bench file as text: rows, bodies, the whole.
pub mod Row
pub mod Body
pub mod List
