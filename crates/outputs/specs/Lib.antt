pub mod Modes
pub mod Channels
