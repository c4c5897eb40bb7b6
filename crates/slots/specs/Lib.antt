-- What the contracts of the crate cite.
pub mod Refusals
pub mod Slots
