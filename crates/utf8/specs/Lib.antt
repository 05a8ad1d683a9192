pub mod Rfc3629
pub mod Syntax
pub mod Steps
