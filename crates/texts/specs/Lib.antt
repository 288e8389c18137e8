pub mod Decimals
pub mod Reading
pub mod Places
pub mod Put
