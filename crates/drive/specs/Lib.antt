pub mod Registers
pub mod States
pub mod Quiet
pub mod Drives
pub mod Rest
pub mod DrivesLemmas
