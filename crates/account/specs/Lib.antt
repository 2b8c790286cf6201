pub mod Rows
pub mod Watches
pub mod Accounts
pub mod Sinces
