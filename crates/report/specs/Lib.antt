pub mod Rows
pub mod ReportLaws
