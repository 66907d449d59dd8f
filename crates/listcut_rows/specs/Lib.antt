-- Definitions that the contracts of this crate cite.
pub mod Rows
pub mod RowsBuilder
pub mod Grammar
pub mod RowText
pub mod Outcome
pub mod RowSlots
pub mod Selections
pub mod Words
