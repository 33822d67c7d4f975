pub mod Reading
pub mod Meaning
pub mod Parts
pub mod Loaded
pub mod Faults
