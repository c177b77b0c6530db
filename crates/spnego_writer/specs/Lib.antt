pub mod Writing
pub mod Views
