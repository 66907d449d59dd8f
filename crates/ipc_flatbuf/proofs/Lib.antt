pub mod Parts
pub mod Loops
pub mod Signs
