mod Rows
mod Knowing
mod Counting
mod Choosing
mod Leaving
mod PickedSignals
mod OneRanking
mod RankingExists
pub mod lemmas
