pub mod Still
pub mod Whole
pub mod Lifts
