pub mod Interleaving
pub mod Replay
pub mod Names
pub mod Places
pub mod Distinct
pub mod Chosen
pub mod Reachability
pub mod Cuts
pub mod Lines
mod Vectors
mod NumberTexts
mod Words
mod Requests
mod NameWords
