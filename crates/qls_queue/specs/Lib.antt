pub mod Live
pub mod Faults
pub mod Writing
pub mod Records
pub mod Answers
pub mod Releasing
pub mod Moments
