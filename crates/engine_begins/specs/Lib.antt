pub mod Writing
pub mod Begins
pub mod Extended
