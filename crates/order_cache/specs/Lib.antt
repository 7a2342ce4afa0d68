pub mod Caches
pub mod Capacity
pub mod Rows
