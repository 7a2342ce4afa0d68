pub mod Chains
pub mod Messages
pub mod Sound
