-- Laws of a night that is told: a pair, a part, all of it; and what it says of the trace. Assumes nothing.
pub mod Telling
pub mod Reading
pub mod Promises
