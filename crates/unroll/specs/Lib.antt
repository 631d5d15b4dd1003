pub mod Bits
pub mod Problem
pub mod Tasks
pub mod Laws
pub mod Waiting
pub mod Records
