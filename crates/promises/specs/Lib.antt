pub mod Batches
pub mod Items
pub mod NullArrays
pub mod Refusals
pub mod Validities
