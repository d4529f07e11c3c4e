-- The table of a patch's terms, and what the sums are worth. Assumes nothing.
pub mod Contract
