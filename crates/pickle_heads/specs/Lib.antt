pub mod Texts
pub mod Options
pub mod Identified
pub mod Inside
pub mod Records
pub mod Lines
pub mod Heads
