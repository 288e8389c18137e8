pub mod Parts
pub mod Dispatch
pub mod RoundLaws
pub mod ResumeLaws
pub mod Turns
pub mod Fair
pub mod Order
