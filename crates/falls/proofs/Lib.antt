pub mod Ticks
pub mod Steps
pub mod Falls
pub mod Forecasts
