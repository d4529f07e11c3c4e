-- The table of terms, what the sum over runs asks and leaves, and how many entries it forms. Assumes nothing.
pub mod Table
pub mod Owed
pub mod Formed
