-- How a net is held, and what one argument makes of it. Assumes nothing.
pub mod Layout
pub mod Stepped
pub mod Few
