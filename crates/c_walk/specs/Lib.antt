pub mod Capped
pub mod Lower
pub mod LowerLaws
pub mod Rows
pub mod RowLaws
