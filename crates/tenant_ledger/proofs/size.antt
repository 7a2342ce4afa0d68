pub mod Counts
pub mod Limits
pub mod Nesting
pub mod Replies
pub mod StampTexts
pub mod Stamps
pub mod Texts
