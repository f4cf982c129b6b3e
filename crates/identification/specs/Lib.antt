pub mod Attempts
pub mod Constrained
pub mod Fits
pub mod Others
pub mod Prepared
pub mod Ranking
