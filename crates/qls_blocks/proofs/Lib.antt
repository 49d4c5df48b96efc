pub mod Lengths
pub mod Fresh
pub mod Files
pub mod Spelling
pub mod Syncs
pub mod Stream
pub mod Legal
