pub mod Automaton
pub mod Moves
