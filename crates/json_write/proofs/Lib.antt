pub mod Signed
pub mod Months
pub mod Years
pub mod Days
pub mod DigitFacts
pub mod DecimalFacts
pub mod Magnitudes
pub mod TimeFacts
pub mod ReadingFacts
pub mod TimeReadingFacts
pub mod TimeResults
mod MemberPrefixes
mod NativeValues
mod Nesting
mod Injective
mod Stops
mod FloatTexts
mod FloatJson
mod Literals
mod Escapes
mod KeyedText
mod ScalarText
mod Typed
pub mod OneText
mod PlainTexts
pub mod TypeFormats
mod NativeTexts
