pub mod Values
pub mod Lexing
pub mod EntrySteps
pub mod Merges
pub mod Stairs
pub mod NoteLaws
