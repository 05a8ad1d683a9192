pub mod Shutdown
pub mod Header
pub mod Size
