pub mod ReadLogs
pub mod Groups
pub mod Tested
pub mod Left
