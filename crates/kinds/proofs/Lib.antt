pub mod Actions
pub mod Bitwise
pub mod Clash
pub mod Folding
pub mod Masks
pub mod Same
