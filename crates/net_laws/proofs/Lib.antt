pub mod Columns
pub mod Tells
pub mod Rows
pub mod Made
pub mod Fields
pub mod Neighbours
