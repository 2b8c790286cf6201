pub mod Digits
pub mod Same
