pub mod Lists
pub mod Reading
pub mod Writing
pub mod Views
pub mod Listed
