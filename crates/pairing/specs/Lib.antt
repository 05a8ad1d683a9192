pub mod Pairs
pub mod Callers
