pub mod Find
pub mod Elements
pub mod Stored
pub mod Next
pub mod Written
