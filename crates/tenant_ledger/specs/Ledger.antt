-- The names by which the crates above speak of a book, passed on from one place. Declares nothing.
pub use Rattle.tenant_ledger.specs.Contents.{Contents, tenant_of}
pub use Rattle.tenant_ledger.specs.Kept.{IsKept}
pub use Rattle.tenant_ledger.specs.Room.{roomless}
pub use Rattle.tenant_ledger.specs.Events.{Event}
pub use Rattle.tenant_ledger.specs.Adding.{with_event}
pub use Rattle.tenant_ledger.specs.NewBook.{new_book}
