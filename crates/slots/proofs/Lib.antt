-- The lemmas that the proofs share.
mod Shifts
pub mod Slots
