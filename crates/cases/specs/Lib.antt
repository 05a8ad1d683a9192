pub mod Step
pub mod Made
pub mod Sleeper
pub mod Leads
pub mod Excepted
pub mod Passing
