pub mod Ready
pub mod Call
