pub mod Answers
pub mod Bodies
pub mod CheckedItems
pub mod Fitting
pub mod MadeStreams
pub mod Numbers
