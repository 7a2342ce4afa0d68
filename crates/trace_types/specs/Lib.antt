pub mod clock
pub mod tenant
pub mod text
pub mod world
