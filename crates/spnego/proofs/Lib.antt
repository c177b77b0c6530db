pub mod Inside
pub mod Fourfold
pub mod Whole
pub mod Exactly
pub mod Portions
