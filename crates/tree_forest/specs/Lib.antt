pub mod Homes
pub mod Kept
