pub mod Columns
pub mod Floats
pub mod Grown
pub mod Listed
pub mod Parts
pub mod Printing
pub mod Standing
pub mod Those
