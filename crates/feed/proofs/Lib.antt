-- Laws of parts, of the feed, of the array that holds its bytes, and of readers by value. Assumes nothing.
pub mod Parts
pub mod Holding
pub mod Reading
pub mod Readers
pub mod Promises
pub mod Taking
