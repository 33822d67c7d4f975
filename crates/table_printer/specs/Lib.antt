pub mod TableText
pub mod Parts
