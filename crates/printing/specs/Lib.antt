pub mod Texts
pub mod Printing
