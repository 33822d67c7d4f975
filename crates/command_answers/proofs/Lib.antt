pub mod Checking
pub mod Limits
pub mod PlanTexts
