pub mod Cutting
pub mod Numbers
pub mod HexWords
pub mod Writing
pub mod Drawing
pub mod Listing
pub mod WithinLimits
pub mod WithinDraws
