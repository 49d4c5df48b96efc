pub mod Spots
pub mod Places
pub mod Windows
pub mod Records
pub mod Reads
pub mod States
