-- The laws of the card: its steps are exact, what it fills in is what the contract says, and its verdict by its tests.
-- Assumes nothing.
pub mod Steps
pub mod Places
pub mod Verdict
