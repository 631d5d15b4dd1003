mod Front
mod Literals
mod Printing
mod ReadBack
mod ReadOrRefused
mod ReadSoFar
mod RefusedOnce
mod RowOrRefused
mod Rows
mod SameRows
mod StatedRows
mod Tokens
pub mod lemmas
