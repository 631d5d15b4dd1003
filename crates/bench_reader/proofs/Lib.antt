mod BenchLaws
mod FormOrNone
mod Forms
mod KindWords
mod Lines
mod Pins
mod PrintedTokens
mod PrintedStatements
mod Printing
mod ReadBack
mod ReadOrRefused
mod SignalNames
mod Statements
mod Tokens
pub mod lemmas
