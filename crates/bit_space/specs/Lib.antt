pub mod FaultNames
pub mod Bits
pub mod Laws
pub mod SpaceView
pub mod Reading
pub mod Pages
