pub mod CodeLaws
pub mod SystemLaws
