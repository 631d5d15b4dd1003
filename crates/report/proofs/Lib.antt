mod Buffered
mod Cells
mod CommentLine
mod InTurn
mod Joined
mod KeyedWords
mod KnownRows
mod LinePieces
mod Tables
pub mod lemmas
