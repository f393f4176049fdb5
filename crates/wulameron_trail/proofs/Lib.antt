pub mod Pieces
pub mod Showings
pub mod Shown
pub mod Walking
