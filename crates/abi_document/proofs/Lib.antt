pub mod Arrays
pub mod Keys
pub mod Levels
pub mod MadeJobs
pub mod Nesting
pub mod Numbered
pub mod Numerals
