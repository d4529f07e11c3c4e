-- The converter of old traces as a trace comes in parts. Assumes nothing.
pub mod Put
