pub mod Paddings
pub mod Identities
pub mod Sides
pub mod Meaning
pub mod Laws
pub mod Promises
