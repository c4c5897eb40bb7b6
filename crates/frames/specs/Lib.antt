pub mod Refusals
pub mod Lines
pub mod Edits
pub mod Frames
pub mod Laws
