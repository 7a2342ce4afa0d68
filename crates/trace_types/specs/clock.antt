-- Ids and event trees, and the clock that they make.
pub mod Points
pub mod Digest
pub mod Id
pub mod IdOperations
pub mod EventTree
pub mod Size
pub mod Norm
pub mod Join
pub mod Fill
pub mod Grow
pub mod Event
pub mod Clock
pub mod Stamps
