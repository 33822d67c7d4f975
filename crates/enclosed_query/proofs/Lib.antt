mod EndFacts
mod ReadTables
mod TextParts
mod StreamWords
mod HoldingFacts
mod Groups
mod AfterFacts
mod StoredTables
