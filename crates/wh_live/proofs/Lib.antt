pub mod CommandGrammars
pub mod HandedOut
pub mod CellsBehind
pub mod OtherWords
