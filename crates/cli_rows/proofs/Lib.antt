mod Offsets
mod Decimals
mod Values
mod TimeTexts
mod TimeExamples
mod Truths
mod ConditionBoxes
mod RecordColumns
mod TrueRows
mod Steps
mod EqualWindows
mod OnlyOne
mod Lines
mod Support
mod RecordArrays
mod ByName
mod UnknownNames
pub mod BatchArrays
pub mod SelectedBatches
pub mod Resolved
pub mod RemainingSelections
mod Collected
mod ConcatenatedRows
mod OneDifference
mod Outputs
