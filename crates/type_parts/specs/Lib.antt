pub mod Members
pub mod CanHave
pub mod Twice
pub mod Laws
