mod Adding
mod AtPlace
mod DecidedClaims
mod DecidedLines
mod Following
mod Holding
mod LogFacts
mod Names
mod OneClaim
mod Printing
mod ReadSoFar
mod Tokens
mod ValidLog
mod ValidOrRefused
mod Verdicts
mod Words
pub mod lemmas
