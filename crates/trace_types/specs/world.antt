-- All tenants, and what a replay of their lines writes.
pub mod Interleaving
pub mod Replay
pub mod TenantNames
pub mod World
