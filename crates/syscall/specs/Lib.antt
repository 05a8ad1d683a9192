pub mod Arguments
pub mod Control
pub mod Promise
