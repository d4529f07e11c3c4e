-- What the composer and the door promise, each demand as one statement, and the rides reckoned by hand. Assumes nothing.
pub mod Demands
pub mod Rides
pub mod Door
pub mod Asked
pub mod Mirrored
pub mod Combinations
