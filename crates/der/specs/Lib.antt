pub mod Elements
pub mod Reading
pub mod Writing
pub mod Laws
pub mod Promises
pub mod Placing
