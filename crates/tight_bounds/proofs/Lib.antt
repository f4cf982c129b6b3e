mod Sums
mod Evaluations
mod FaultKinds
mod Extents
mod Wide
mod Spent
mod Spending
mod Tighter
pub mod Known
mod Paid
mod SlotsTight
mod Rows
