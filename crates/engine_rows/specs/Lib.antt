pub mod Summing
pub mod Packing
pub mod Marking
pub mod Keeping
