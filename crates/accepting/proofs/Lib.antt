pub mod Listening
pub mod Accepting
