pub mod Places
pub mod Told
pub mod Stream
pub mod Ahead
pub mod Parts
pub mod Steps
pub mod Ending
