pub mod Accepted
pub mod TrialQuery
