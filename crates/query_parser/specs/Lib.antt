pub mod Given
pub mod Reads
