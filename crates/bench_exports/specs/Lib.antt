pub mod Numbers
pub mod Checking
