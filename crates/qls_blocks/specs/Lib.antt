pub mod Entries
pub mod Batching
pub mod Plans
pub mod Spelled
pub mod Parts
pub mod Laws
