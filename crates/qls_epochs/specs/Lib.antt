pub mod Whole
pub mod Trims
pub mod Joins
