-- The laws of the sheet: its leaves; the fold of the pairs is the sheet of the whole trace. Assumes nothing.
pub mod Leaves
pub mod Adding
pub mod Promises
