pub mod Complete
pub mod Examples
pub mod Extension
pub mod Following
pub mod Projection
pub mod Promises
pub mod Rules
pub mod Showing
