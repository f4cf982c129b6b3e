pub mod Bytes
pub mod DumpLines
pub mod DumpRows
pub mod LineRows
pub mod Refusing
pub mod TypeLines
pub mod Sayings
