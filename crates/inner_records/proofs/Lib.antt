pub mod Finding
pub mod Lists
pub mod Made
pub mod ElementTypes
pub mod Listing
pub mod Started
pub mod Mapping
pub mod Reaching
