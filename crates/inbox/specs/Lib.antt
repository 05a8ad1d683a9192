pub mod View
pub mod Well
pub mod Promise
