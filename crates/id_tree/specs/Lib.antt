pub mod Digest
pub mod IdCode
pub mod Laws
pub mod Leaves
pub mod Node
pub mod NodeFalls
pub mod Parts
