mod PackedBits
mod Drawn
mod GateOutputs
mod PinOrder
mod FrameSteps
mod Existing
mod Simulations
pub mod lemmas
mod Tracing
mod LoadSteps
mod LoadNames
mod Apart
mod LoadShape
mod LoadNets
mod RowWords
