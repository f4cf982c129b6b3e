pub mod Columns
pub mod Lists
pub mod Replies
