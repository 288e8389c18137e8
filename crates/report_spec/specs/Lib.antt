pub mod Printed
pub mod Complete
