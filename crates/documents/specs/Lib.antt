pub mod Faults
pub mod Documents
pub mod Across
pub mod Attempts
pub mod Promise
pub mod Worked
