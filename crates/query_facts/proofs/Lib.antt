pub mod PartFacts
pub mod Readables
