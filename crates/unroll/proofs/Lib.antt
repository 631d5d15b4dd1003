mod Masks
mod PinWords
mod BlockNumbers
mod TaskBlocks
mod TaskCells
mod BlockLists
mod AdjacentTasks
mod WokenTasks
mod ConstantTasks
mod CellTests
mod WaitingWords
mod RecordLists
mod WordBits
mod SharedCells
pub mod lemmas
