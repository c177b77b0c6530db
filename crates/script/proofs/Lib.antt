pub mod Mics
