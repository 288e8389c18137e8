pub mod SingleFile
pub mod SingleFileLaws
