pub mod Meaning
pub mod Rules
pub mod Members
pub mod Pair
pub mod Numbers
pub mod Pairs
