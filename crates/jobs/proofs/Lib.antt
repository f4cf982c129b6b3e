mod Holding
mod Inner
mod Sighted
mod Chosen
mod Answered
mod Mapped
mod Dumped
mod FilesWritten
mod EachWritten
mod NamesRead
mod LongNames
mod ListRuns
mod Asked
mod Shown
mod Among
mod Readable
mod Listed
mod Explained
mod Told
mod FileReasons
mod FilesTold
pub mod Unasked
pub mod Recorded
pub mod Searched
pub mod Hunts
pub mod Copied
pub mod Tasked
mod Requested
