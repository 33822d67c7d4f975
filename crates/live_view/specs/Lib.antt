pub mod Views
pub mod Laws
pub mod Merging
pub mod Waiting
pub mod Seen
