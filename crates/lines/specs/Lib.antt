pub mod Digits
pub mod Lines
pub mod Records
pub mod Cuts
