pub mod Keeping
pub mod Limits
pub mod RowsTheorems
pub mod Search
pub mod Small
