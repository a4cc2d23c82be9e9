pub mod Equality
pub mod Fed
pub mod FieldsOf
pub mod Identifier
pub mod Kinds
pub mod Reports
pub mod Texts
