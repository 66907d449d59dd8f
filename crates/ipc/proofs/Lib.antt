pub mod Visits
pub mod Emitted
pub mod Batches
pub mod Entries
pub mod Copies
pub mod Loops
pub mod Decompression
pub mod WriteErrors
pub mod Messages
pub mod BlockLoops
pub mod AppendableLaws
pub mod DeltaParts
pub mod UnionOffsets
pub mod NamedColumns
mod AtEnd
pub mod Bodies
pub mod MessageLoops
pub mod BlockMessages
