pub mod Digits
pub mod Addresses
pub mod Times
