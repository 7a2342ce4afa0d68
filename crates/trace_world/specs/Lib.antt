pub mod Texts
pub mod Replayed
pub mod Exported
pub mod Counted
pub mod Tenants
pub mod Isolation
pub mod Answered
