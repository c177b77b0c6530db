pub mod Legs
pub mod Rounds
pub mod Tops
