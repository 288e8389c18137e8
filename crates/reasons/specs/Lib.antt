pub mod Answers
pub mod Numbers
pub mod Amounts
pub mod Refusals
