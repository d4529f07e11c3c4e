-- What the bounds' tests say where they fail. Assumes nothing.
pub mod Within
