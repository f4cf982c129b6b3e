pub mod Reading
pub mod Escaping
pub mod Characters
pub mod Doubling
pub mod Plain
pub mod Walks
