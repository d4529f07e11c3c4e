-- The table of a ride's terms, a surface loaded, and the contract. Assumes nothing.
pub mod Filled
pub mod Loaded
pub mod Contract
pub mod steps
pub mod gather
