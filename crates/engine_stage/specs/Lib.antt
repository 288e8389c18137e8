pub mod Standing
pub mod Marked
pub mod Appended
pub mod Turning
pub mod Running
