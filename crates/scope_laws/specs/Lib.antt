pub mod Agreement
pub mod Arrays
pub mod Records
pub mod Laws
