pub mod Pigeons
pub mod Joining
pub mod Reaching
