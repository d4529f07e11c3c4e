-- Laws of the salvage in a window, with today's door. Assumes nothing.
pub mod Deciding
pub mod Looking
pub mod Promises
