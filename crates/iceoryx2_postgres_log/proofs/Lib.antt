pub mod Told
pub mod Parts
pub mod RowParts
pub mod Heard
pub mod Rows
pub mod Inserts
pub mod Copies
pub mod NodeRows
mod Undone
