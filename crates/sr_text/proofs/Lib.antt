mod ReadsDecimal
mod Tokens
pub mod lemmas
