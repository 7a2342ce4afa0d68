pub mod ComparedTrees
pub mod Gathered
pub mod InOrder
pub mod LastEvents
pub mod Listed
pub mod Told
pub mod Vectors
