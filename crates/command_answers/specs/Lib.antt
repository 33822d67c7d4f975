pub mod Complaint
pub mod OwnChecks
pub mod Phases
pub mod Piece
