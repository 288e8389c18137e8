pub mod Kinds
pub mod RowLaws
pub mod Grow
pub mod GrowLaws
pub mod Tried
pub mod Open
