pub mod Call
pub mod Driven
pub mod Ends
pub mod Output
