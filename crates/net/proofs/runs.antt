-- All choices are the runs; the walk is the runs; a ride's numerator is a walk over its terms. Assumes nothing.
pub mod Runs
pub mod Walk
pub mod Loop
pub mod Reach
pub mod Ride
pub mod Budget
pub mod Tree
