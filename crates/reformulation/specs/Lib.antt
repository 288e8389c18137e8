pub mod Handed
pub mod Numbers
pub mod Given
pub mod Limits
pub mod Sums
pub mod Shows
pub mod Projecting
