-- Laws of cutting, and of what stands at the front of some bytes. Assumes nothing.
pub mod Cutting
pub mod Leaves
pub mod Promises
