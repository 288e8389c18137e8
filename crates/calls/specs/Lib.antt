pub mod Paper
pub mod Codes
