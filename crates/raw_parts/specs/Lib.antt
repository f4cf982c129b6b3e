pub mod Integral
pub mod Places
pub mod Within
pub mod Mapped
pub mod Copied
pub mod Written
