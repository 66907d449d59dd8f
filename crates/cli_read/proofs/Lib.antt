mod SelectedRows
mod RequestSteps
pub mod StreamBatches
pub mod FileBatches
pub mod FirstLaws
mod Lists
pub mod BufferSteps
pub mod Readers
pub mod PrintSteps
mod Resolved
mod Buffers
mod AllBatches
mod SameBytes
mod EqualFiles
mod ProjectedNames
mod Positions
mod RowsAtIndices
mod IndexedRows
mod TakeSteps
mod LastRows
mod StreamTails
mod FileTails
mod Counted
mod FirstErrors
mod InputSchemas
mod TailLaws
mod CountLaws
mod PrintedInfo
