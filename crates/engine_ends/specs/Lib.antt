pub mod Finishing
pub mod Closing
