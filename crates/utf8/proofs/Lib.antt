pub mod Passing
pub mod Rows
pub mod Encode
pub mod Once
pub mod Agree
pub mod Examples
