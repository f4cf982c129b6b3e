mod Unresolved
pub mod NumberLengths
pub mod Within
pub mod StringLengths
pub mod Sizes
pub mod ModeRooms
pub mod TextSizes
pub mod SizesFit
pub mod PartSizes
pub mod BoundedParts
pub mod BoundedTexts
pub mod BoundedOutputs
pub mod TextNodes
mod TextRoomRows
