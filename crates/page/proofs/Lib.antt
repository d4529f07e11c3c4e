-- Laws of putting text on a page. Assumes nothing.
pub mod Putting
pub mod Forming
