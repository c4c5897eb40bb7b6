-- Definitions.
pub mod Columns
pub mod Laws
pub mod Layers
pub mod Refusals
pub mod Translations
-- Lemmas that the laws of the layers and of the row are proved by.
pub mod Chains
pub mod TranslationsLemmas
pub mod Rules
pub mod Passing
pub mod Flips
pub mod Parts
pub mod ColumnsLemmas
