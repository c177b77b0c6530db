pub mod Paddings
pub mod Puts
