pub mod Continuing
pub mod EngineLaws
pub mod ResumingTheorems
