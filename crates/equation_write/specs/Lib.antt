pub mod Texts
pub mod TextLaws
pub mod Answer
pub mod CallLaws
pub mod BackLaws
