pub mod Ops
pub mod Held
pub mod Entries
