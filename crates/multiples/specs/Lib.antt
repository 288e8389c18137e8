pub mod Answers
pub mod Taking
