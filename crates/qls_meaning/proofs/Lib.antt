mod Small
mod Readings
mod Rules
mod Replays
mod Releases
mod Histories
