pub mod EngineLaws
pub mod Resuming
pub mod Continuing
