pub mod Records
pub mod Writing
pub mod Small
pub mod WordLaws
pub mod Degrees
pub mod Rising
pub mod SmallRows
pub mod Appending
