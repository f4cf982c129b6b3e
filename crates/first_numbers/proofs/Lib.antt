mod Near
mod Steps
mod Known
mod Alike
mod Judging
mod Reading
mod Constants
mod Bytes
pub mod Screened
pub mod Along
pub mod Misses
pub mod Outcomes
