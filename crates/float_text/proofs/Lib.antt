mod Clear
mod Closest
mod Estimates
mod Exact
mod Halves
mod Interval
mod LimbFacts
mod Layouts
mod Leading
mod Monotone
mod Powers
mod ReadBack
mod Rounding
mod Search
pub mod TextReads
mod Seventeen
pub mod TextBytes
pub mod HalfTexts
mod Shorter
mod Steps
