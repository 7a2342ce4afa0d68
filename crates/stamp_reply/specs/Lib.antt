pub mod Chunks
pub mod Chunking
