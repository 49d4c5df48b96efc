mod Settling
mod Queues
mod Lists
mod Order
pub mod There
mod Whole
