pub mod Alike
pub mod BitCounts
pub mod BitLists
pub mod Copied
pub mod OffsetReads
pub mod Rises
mod TypeTexts
