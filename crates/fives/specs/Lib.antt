-- The replay's five numbers of a whole trace, how a pair is counted, and the five lines. Assumes nothing.
pub mod Replay
pub mod Count
pub mod Lines
pub mod Examples
