pub mod Listed
pub mod Passes
pub mod Lines
