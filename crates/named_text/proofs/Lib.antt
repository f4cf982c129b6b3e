pub mod Pushes
pub mod TimeLaws
