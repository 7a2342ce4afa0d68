mod AnsweredLines
pub mod Crossing
mod FirstLines
mod Goings
mod Lists
mod OwnLogs
mod Reading
mod Refusing
mod Running
mod Shelves
mod Soundness
mod Tenants
mod Writing
