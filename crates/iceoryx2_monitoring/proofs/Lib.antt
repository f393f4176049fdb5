pub mod Suffixes
pub mod Numbers
pub mod Rising
