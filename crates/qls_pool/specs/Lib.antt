pub mod Pools
pub mod Files
pub mod Taking
pub mod Discipline
pub mod Moments
pub mod Serials
pub mod Next
pub mod Laws
