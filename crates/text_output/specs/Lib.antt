pub mod HexDigits
pub mod Brackets
pub mod Written
pub mod Styles
