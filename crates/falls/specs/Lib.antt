pub mod Histories
pub mod Law
pub mod Forecasts
pub mod Bounds
