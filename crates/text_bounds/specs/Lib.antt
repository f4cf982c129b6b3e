pub mod TextRoom
pub mod TextHeld
pub mod OutputRoom
pub mod TextLaws
pub mod TextRuns
pub mod Props
