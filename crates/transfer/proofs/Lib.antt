pub mod BitLaws
pub mod Sending
pub mod Adds
pub mod FitLaws
pub mod PlainMove
pub mod Unseen
