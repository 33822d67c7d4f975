pub mod Faults
pub mod Laws
pub mod Machine
pub mod Reads
pub mod Wholes
