pub mod Names
pub mod Accounts
pub mod Matches
pub mod Views
