pub mod AnswerLaws
pub mod Parts
pub mod PartsLaws
pub mod Plans
