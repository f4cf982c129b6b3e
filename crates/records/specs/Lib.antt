pub mod Next
pub mod Records
pub mod Written
