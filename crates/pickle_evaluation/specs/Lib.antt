pub mod Operands
pub mod Contents
pub mod Comes
pub mod Ranges
pub mod Known
pub mod Evaluating
pub mod Spending
