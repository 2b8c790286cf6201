pub mod Refusals
pub mod Services
pub mod Ticks
pub mod Calls
pub mod Trails
