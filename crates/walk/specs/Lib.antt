pub mod ExtendLaws
pub mod Lower
