pub mod Rules
pub mod Choosing
pub mod Promises
pub mod Agreeing
pub mod Fallback
