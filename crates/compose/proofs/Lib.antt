-- Laws of the composer's three output arrays, and demand 3 of any result that they allow. Assumes nothing.
pub mod Entry
pub mod Demand3
pub mod Balance
