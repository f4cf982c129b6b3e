pub mod Layouts
pub mod Runs
pub mod Laws
pub mod Held
pub mod Judged
pub mod Reads
pub mod Screens
