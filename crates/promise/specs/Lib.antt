pub mod Hidden
pub mod Answers
pub mod Promise
