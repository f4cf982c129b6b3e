pub mod Limits
pub mod Pickle
pub mod Props
pub mod Tree
