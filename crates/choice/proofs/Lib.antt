pub mod Chosen
pub mod Falling
