pub mod Keys
pub mod Rungs
pub mod Mics
pub mod Givens
pub mod Steps
pub mod Lawful
