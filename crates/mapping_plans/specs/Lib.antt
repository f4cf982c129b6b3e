pub mod Rows
pub mod Plan
pub mod Mapping
pub mod PlanLaws
pub mod Kept
pub mod Avoids
pub mod Widths
