mod Kept
pub mod Feeding
