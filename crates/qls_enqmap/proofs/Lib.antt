pub mod Rising
pub mod Writes
pub mod Ends
pub mod Kept
pub mod Counted
pub mod Blocking
pub mod Together
