pub mod Offers
pub mod Sizes
