pub mod Complete
pub mod CutShort
pub mod Endings
pub mod Examples
pub mod RunLaws
