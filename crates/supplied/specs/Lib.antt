-- Definitions.
pub mod Carries
pub mod LowBits
pub mod Memoryless
pub mod Supplied
-- Lemmas that the laws of the links are proved by.
pub mod CarriesLemmas
pub mod MemorylessLemmas
pub mod LowBitsLemmas
