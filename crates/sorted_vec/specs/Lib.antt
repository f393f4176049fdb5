-- What a contract says of a sorted vector.
pub mod Both
pub mod Lends
pub mod Pieces
pub mod Sorted
pub mod SortedLends
