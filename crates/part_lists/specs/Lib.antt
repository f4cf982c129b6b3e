pub mod Steps
pub mod Listed
pub mod ListText
pub mod PartLines
pub mod Laws
pub mod PartRuns
