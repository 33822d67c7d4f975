pub mod Generator
pub mod Draws
pub mod Queue
pub mod Following
pub mod TraceText
pub mod ReadBack
