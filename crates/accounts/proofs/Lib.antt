pub mod Listing
pub mod Walking
