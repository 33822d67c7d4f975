pub mod Pipes
pub mod Rings
