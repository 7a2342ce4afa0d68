-- One tenant: its rows, what its events reach, and what it is due.
pub mod Limits
pub mod Code
pub mod Rows
pub mod Reachability
pub mod Refusal
pub mod Reported
pub mod Tenant
