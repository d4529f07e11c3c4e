-- Laws of nets, steps and sums over all choices, and the theorem of a ride read at a moment. Assumes nothing.
pub mod Every
pub mod Steps
pub mod Symmetry
pub mod Size
pub mod Weigh
pub mod Literal
pub mod Bounds
pub mod Evaluation
pub mod Bernstein
pub mod Powers
pub mod PathPlace
pub mod Rounded
pub mod Moment
pub mod Readings
pub mod Mirror
pub mod runs
