pub mod Stream
pub mod SourceView
pub mod Window
