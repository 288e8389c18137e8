pub mod Taking
pub mod Walking
pub mod Turning
pub mod Trying
pub mod Pushing
pub mod Enlisting
