pub mod BitTable
pub mod Words
pub mod Simulation
pub mod Drawing
pub mod Laws
pub mod Frames
pub mod Load
