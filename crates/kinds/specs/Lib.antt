pub mod Answers
pub mod Changes
pub mod Kinds
pub mod Laws
pub mod Letters
pub mod Refusals
