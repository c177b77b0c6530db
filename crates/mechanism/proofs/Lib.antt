pub mod Paddings
pub mod Sealable
