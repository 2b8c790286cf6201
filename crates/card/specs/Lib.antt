pub mod Quiet
pub mod Facts
pub mod Cards
pub mod Calling
pub mod Ticking
pub mod Bools
