mod KeyFacts
mod KeyLists
mod JoinSteps
mod TopSteps
mod GroupSteps
pub mod GroupRead
mod AlikeTables
pub mod StateLengths
mod MadeRows
mod TablesRead
mod ReadRows
