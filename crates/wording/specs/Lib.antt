pub mod Handles
pub mod Numbers
pub mod WordsOf
