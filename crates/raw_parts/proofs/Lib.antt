pub mod Copying
pub mod Endings
pub mod Integrals
pub mod NarrowTypes
pub mod Places
pub mod Ranges
pub mod WithinFiles
pub mod Writings
