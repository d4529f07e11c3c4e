-- Terms, all choices of them, runs, the code's walk, its weights and the nets that it forms. Assumes nothing.
pub mod Terms
pub mod Walk
pub mod Ride
pub mod Budget
pub mod Tree
