pub mod Changes
pub mod Levels
pub mod Log
pub mod LogLaws
pub mod Steps
pub mod Turns
pub mod Wavefront
pub mod Worklist
