pub mod Call
pub mod Command
pub mod Complaint
pub mod Ends
pub mod FactsEnds
pub mod Files
pub mod Options
pub mod Statuses
