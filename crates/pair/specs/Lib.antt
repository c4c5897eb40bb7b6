pub mod Written
pub mod Cells
pub mod Frames
pub mod State
pub mod Places
pub mod Edits
