pub mod Turns
pub mod Each
