pub mod Found
pub mod Listed
pub mod Heads
pub mod Groups
