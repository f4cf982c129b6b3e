pub mod AnswerLaws
pub mod Answers
pub mod Copied
pub mod Found
pub mod Rows
pub mod Writing
