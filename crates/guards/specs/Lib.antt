pub mod Watchdogs
pub mod Senses
pub mod Fuses
pub mod Ports
