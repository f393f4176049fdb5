pub mod JournalLives
pub mod Rehearsals
pub mod Rehearsing
pub mod WrittenLines
