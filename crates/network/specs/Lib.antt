pub mod Shared
pub mod Groups
pub mod Events
pub mod Costs
pub mod Networks
pub mod Running
pub mod Ends
