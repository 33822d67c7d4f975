pub mod Pieces
pub mod NamedLines
pub mod Once
pub mod Plans
