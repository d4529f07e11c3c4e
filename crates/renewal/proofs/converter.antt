-- Parts put out what becomes of the whole trace. Assumes nothing.
pub mod Putting
pub mod Turning
pub mod Leaves
pub mod Promises
