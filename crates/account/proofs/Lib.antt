pub mod Rows
pub mod Runs
pub mod Starts
pub mod Told
pub mod Sinces
pub mod Tracks
pub mod Accounted
