pub mod Complement
pub mod Ranges
