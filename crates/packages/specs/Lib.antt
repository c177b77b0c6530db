pub mod Packages
pub mod Walk
pub mod Protocols
pub mod Filter
