pub mod Spots
pub mod Ranges
pub mod Laws
