pub mod Reformulation
pub mod Following
pub mod Extension
pub mod Showing
pub mod Rules
pub mod Complete
