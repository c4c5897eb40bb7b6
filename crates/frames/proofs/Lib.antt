mod Digits
mod Readings
pub mod Bounds
pub mod Sayings
pub mod Cut
