pub mod Sorts
pub mod Derivations
pub mod Evaluated
pub mod Yielded
pub mod Laws
pub mod MappingLaws
pub mod Capacity
pub mod CapacityLaws
