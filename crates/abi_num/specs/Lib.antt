pub mod Alignment
pub mod Bits
pub mod Lists
pub mod Target
pub mod Unsigned
pub mod formers
