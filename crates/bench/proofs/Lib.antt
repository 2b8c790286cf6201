pub mod Same
pub mod Ticks
pub mod Pending
pub mod Until
pub mod Served
pub mod Trails
pub mod Refused
