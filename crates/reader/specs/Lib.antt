pub mod Reading
pub mod Answers
pub mod AnswerLaws
pub mod Rules
