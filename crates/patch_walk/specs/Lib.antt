-- The terms of a patch. Assumes nothing.
pub mod PatchTerms
