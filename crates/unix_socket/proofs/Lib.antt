pub mod Entered
pub mod Joints
