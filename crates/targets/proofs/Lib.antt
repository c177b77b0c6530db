pub mod Doubles
pub mod Groups
pub mod Numbers
pub mod Worked
