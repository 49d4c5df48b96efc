pub mod Stores
mod Meanings
mod Readings
mod Damages
mod Crashes
mod Moments
mod Returns
mod Changed
mod OrderlyRun
mod WholeRuns
mod EpochRuns
