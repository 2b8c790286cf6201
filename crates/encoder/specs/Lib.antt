pub mod Turns
pub mod Channels
pub mod Each
