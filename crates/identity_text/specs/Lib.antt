pub mod Columns
pub mod Objects
pub mod Texts
pub mod Identities
pub mod Laws
pub mod Unprepared
