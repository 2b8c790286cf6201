pub mod Arrays
pub mod Hushed
