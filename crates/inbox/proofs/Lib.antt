pub mod Offsets
pub mod Groups
pub mod Shows
pub mod Parts
pub mod Kept
pub mod Stream
pub mod Unique
