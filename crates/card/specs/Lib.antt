-- What the contracts of the card's own steps cite. Assumes nothing.
pub mod Steps
