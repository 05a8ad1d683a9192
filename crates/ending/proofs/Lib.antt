pub mod Leaving
pub mod Listeners
pub mod Ended
