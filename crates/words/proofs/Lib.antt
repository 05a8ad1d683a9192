pub mod Names
pub mod Integers
