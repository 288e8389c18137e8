pub mod Marks
pub mod Scan
pub mod Products
pub mod Totals
pub mod Turns
pub mod ProductLaws
pub mod Trials
