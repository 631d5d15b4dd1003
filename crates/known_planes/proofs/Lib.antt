mod Layouts
mod Marks
mod Noting
mod InPlace
mod Members
mod BitCounts
mod Sums
mod DumpWords
mod DumpRows
mod SignalCounts
mod PlanesLaws
mod WordLists
mod Clashes
mod NewBits
mod CountLaws
mod KnownWords
mod GoingBack
pub mod lemmas
