pub mod Words
pub mod Form
pub mod Writing
pub mod Reading
pub mod Ranges
pub mod RuleLaws
