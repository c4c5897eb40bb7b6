pub mod Causes
pub mod Days
pub mod Feedings
pub mod Pieces
pub mod Readers
pub mod Reports
pub mod States
pub mod Printed
