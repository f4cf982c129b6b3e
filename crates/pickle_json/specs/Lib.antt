pub mod Members
pub mod Notes
pub mod Checks
pub mod Fields
pub mod TypeObjects
