pub mod Refusals
pub mod TrialSteps
pub mod TrialParts
pub mod TrialTyped
pub mod TrialAccepted
