pub mod Digits
pub mod Turned
pub mod Windows
pub mod Pages
pub mod Signs
pub mod Rows
pub mod Failures
