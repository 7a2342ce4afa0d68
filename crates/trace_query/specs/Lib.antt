pub mod Compared
pub mod Deciding
pub mod Laws
pub mod Queries
