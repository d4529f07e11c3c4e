-- Sums in two limbs: what they are worth. Assumes nothing.
pub mod Limbs
