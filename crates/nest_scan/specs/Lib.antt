-- Definitions that the contracts of this crate use.
pub mod Examples
pub mod Items
pub mod Elements
