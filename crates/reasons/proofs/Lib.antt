pub mod Amounts
pub mod AnswerLaws
pub mod Refusals
