pub mod Leading
pub mod Totals
pub mod Passing
pub mod Mapped
pub mod Fields
pub mod Shapes
pub mod Entering
