pub mod Room
pub mod Sizes
pub mod Order
pub mod Taking
pub mod Operating
pub mod Standing
pub mod Sides
