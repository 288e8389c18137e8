pub mod Enlisting
pub mod Taken
pub mod Pushed
