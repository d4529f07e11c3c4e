-- The loop over terms, the two groups, what a turn asks and leaves, and how nets of either layout are stepped. Assumes nothing.
pub mod Turn
pub mod Turning
pub mod Grouped
pub mod Counting
pub mod Gathering
pub mod Boxes
pub mod Triangles
