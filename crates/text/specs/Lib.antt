pub mod Pieces
pub mod Cases
