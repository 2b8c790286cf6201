pub mod Queues
pub mod Chips
pub mod Inputs
