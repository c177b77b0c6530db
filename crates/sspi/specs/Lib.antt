pub mod Faults
pub mod Kinds
pub mod Layers
pub mod Numbers
pub mod Statuses
