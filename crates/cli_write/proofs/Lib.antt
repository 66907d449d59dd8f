mod ConcatSteps
pub mod Lists
mod Writers
pub mod CopySteps
mod ProjectedNames
mod Resolved
mod UnreadBytes
mod ParsedLines
mod Newlines
mod BooleanLines
mod ImportSteps
