pub mod MapWords
