-- What the converter promises of a replay, over the door's two readings. Assumes nothing.
pub mod Alike
pub mod Conversion
