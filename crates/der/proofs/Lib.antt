pub mod Ways
pub mod Heads
pub mod Rules
pub mod Adding
pub mod Measures
pub mod Taking
pub mod Promised
pub mod Placing
