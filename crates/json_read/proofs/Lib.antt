pub mod ChildLaws
pub mod ClosestIntegers
mod Completing
pub mod EmptyLaws
mod Feeding
mod FloatsBack
pub mod Feeds
mod Leaves
pub mod HalfBack
pub mod HalfDigits
pub mod HalfNearest
pub mod HalfRounding
pub mod LineLaws
pub mod MoreLines
mod Named
mod NumberReading
mod Pushed
mod ReadBack
mod RequiredLaws
mod PathLaws
mod RoundTrip
pub mod RowLaws
mod Stepping
mod AddedLists
pub mod TextBack
pub mod TextResults
mod ValuesBack
pub mod Twins
pub mod TypeLaws
mod TypeParts
pub mod Wholes
