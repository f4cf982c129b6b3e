pub mod Paths
mod Lines
mod ListsLaw
