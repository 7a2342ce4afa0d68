pub mod Demand
pub mod Reading
