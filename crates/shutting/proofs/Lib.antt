pub mod Ended
pub mod Shutting
