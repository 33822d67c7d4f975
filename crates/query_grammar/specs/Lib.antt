pub mod Kinds
pub mod Language
pub mod Grammar
pub mod Parser
pub mod Reading
pub mod Fault
pub mod Texts
pub mod FoldTokens
