pub mod Queued
pub mod Runs
pub mod Copying
