pub mod Places
pub mod Firsts
pub mod Falls
pub mod Scans
pub mod Rows
pub mod Leasts
pub mod Agree
pub mod Examples
