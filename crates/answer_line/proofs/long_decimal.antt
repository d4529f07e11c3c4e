-- The digits of a number by two words. Assumes nothing.
pub mod Tens
pub mod Examples
