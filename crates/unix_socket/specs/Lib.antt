pub mod Joint
pub mod Least
