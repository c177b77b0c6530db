pub mod Tokens
pub mod Reading
pub mod Views
pub mod Places
