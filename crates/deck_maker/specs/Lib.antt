pub mod MadeDeck
