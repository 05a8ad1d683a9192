pub mod Layout
pub mod Cells
pub mod Rows
pub mod View
pub mod Finding
pub mod Inboxes
pub mod Naming
