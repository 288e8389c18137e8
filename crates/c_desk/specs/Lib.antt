pub mod Words
pub mod CodeLaws
pub mod WordLaws
