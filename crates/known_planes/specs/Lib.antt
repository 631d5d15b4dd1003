pub mod Planes
pub mod Marks
pub mod Rows
pub mod Layout
pub mod WordLists
pub mod Counts
pub mod Clash
pub mod Laws
