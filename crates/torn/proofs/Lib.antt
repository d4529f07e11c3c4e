-- Laws of the salvage. Assumes nothing.
pub mod Joining
pub mod Saving
pub mod Back
pub mod Promises
pub mod Waiting
pub mod Going
