-- Any fold of the pairs of a trace, fed in parts. Assumes nothing.
pub mod Parts
pub mod Feed
pub mod Takes
