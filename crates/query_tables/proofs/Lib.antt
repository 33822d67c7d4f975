mod GroupTables
mod FinalSteps
pub mod PrintedTables
