pub mod Small
pub mod Keeping
pub mod Rows
pub mod Places
