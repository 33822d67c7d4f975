pub mod Faults
pub mod Hashes
pub mod Holding
pub mod PartTexts
pub mod Pieces
pub mod Traces
