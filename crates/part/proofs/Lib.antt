-- What is true of the card's answer: a numerator is its binomial times one blossom value, and what the contract promises.
-- Assumes nothing.
pub mod Divided
pub mod Five
pub mod Promises
