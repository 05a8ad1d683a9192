pub mod Formed
pub mod Admission
pub mod OnePass
pub mod Making
