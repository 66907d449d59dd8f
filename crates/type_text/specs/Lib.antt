-- Definitions that the contracts of this crate cite.
pub mod Examples
pub mod Keywords
pub mod Representable
pub mod TypeParser
