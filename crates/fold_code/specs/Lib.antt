pub mod Machine
pub mod Tree
pub mod Code
pub mod Meaning
pub mod Checks
pub mod Additive
pub mod Moves
