pub mod Counts
pub mod Shape
pub mod Coefficients
pub mod CheckLaws
