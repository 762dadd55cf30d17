pub mod RestJoin
pub mod RestLaws
pub mod OneByteJoin
pub mod OneByteLaws
