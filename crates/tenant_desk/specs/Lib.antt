pub mod Desks
pub mod Events
pub mod Histories
pub mod Publications
pub mod Rules
pub mod Views
