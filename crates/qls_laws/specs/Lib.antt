pub mod Readings
pub mod Histories
pub mod Areas
pub mod Undamaged
pub mod Returns
