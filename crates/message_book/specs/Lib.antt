pub mod Book
pub mod Chains
pub mod Receiving
