pub mod Tight
pub mod Laws
pub mod Held
pub mod TightRuns
