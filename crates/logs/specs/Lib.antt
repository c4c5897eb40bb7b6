pub mod Logs
pub mod Begun
pub mod Partial
pub mod Feeding
