pub mod Puts
pub mod CharArrays
pub mod StringTexts
pub mod MemberTexts
pub mod CharTexts
pub mod WholeParts
pub mod Cuts
pub mod WrittenTexts
pub mod HexTexts
pub mod PlainTexts
pub mod RowTexts
pub mod LineTexts
pub mod JsonKeys
pub mod JsonWords
pub mod JsonValues
pub mod StyledJsonValues
pub mod JsonReading
pub mod Paths
pub mod LeafTexts
pub mod LeafLines
pub mod DigitCounts
pub mod ShortTexts
pub mod ShowTypes
pub mod ShowLines
pub mod ShowChars
pub mod HexPlaces
mod ValueTextRows
mod TreeTextRows
mod JsonTextRows
mod LinesTextRows
mod ShowTextRows
mod StyledRows
