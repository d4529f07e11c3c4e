-- A night told pair by pair, and what its reading promises. Assumes nothing.
pub mod Tale
pub mod Contract
pub mod Examples
