-- Laws of two words: the only ones of a number, made from two limbs, and how they are rounded. Assumes nothing.
pub mod Raising
pub mod Only
pub mod Numbers
pub mod Joining
pub mod Dividing
pub mod Carrying
