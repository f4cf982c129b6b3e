pub mod Lists
pub mod Mapped
pub mod Nexts
