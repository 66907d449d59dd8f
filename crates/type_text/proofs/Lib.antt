-- Lemmas of this crate.
pub mod Prefixes
pub mod Numbers
pub mod Steps
pub mod FieldRows
pub mod RoundTrip
pub mod Sound
pub mod Results
pub mod OnlyRepresentable
