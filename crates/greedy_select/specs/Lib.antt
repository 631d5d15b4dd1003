pub mod Picks
pub mod Ranking
pub mod Laws
