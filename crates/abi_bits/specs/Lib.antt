pub mod Count
pub mod Forbidden
pub mod ForbiddenCode
pub mod Laws
pub mod Mask
pub mod Pairs
pub mod Single
pub mod Span
