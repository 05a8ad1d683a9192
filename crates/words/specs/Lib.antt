pub mod Numbers
pub mod Integers
