pub mod Somehow
pub mod Arises
pub mod Paths
pub mod Laws
