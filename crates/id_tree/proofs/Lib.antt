pub mod Disjoint
pub mod Ids
pub mod Normal
pub mod Places
pub mod Split
pub mod Sum
pub mod Vectors
