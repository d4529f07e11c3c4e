-- The state that takes a trace in parts. Assumes nothing.
pub mod Read
