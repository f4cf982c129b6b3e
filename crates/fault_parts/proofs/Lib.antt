pub mod Faults
pub mod Meant
mod Rows
pub mod Once
