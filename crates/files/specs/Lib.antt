-- The room that every program shares. Assumes nothing.
pub mod Verdicts
