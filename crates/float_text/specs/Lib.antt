pub mod Limbs
pub mod Shortest
pub mod Text
pub mod Half
pub mod Examples
