pub mod Sizes
pub mod Headers
pub mod Limits
