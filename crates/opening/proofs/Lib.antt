pub mod Socketing
pub mod Binding
