pub mod Paths
pub mod Meanings
pub mod Reaches
pub mod Within
pub mod Apart
pub mod Laws
