pub mod Digits
pub mod Signed
pub mod Sizes
pub mod Elements
pub mod Evaluations
pub mod Arms
pub mod Comparisons
pub mod TruthLaws
