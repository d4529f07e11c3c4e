-- What the door answers to a record, worked records, and what its parts give one another. Assumes nothing.
pub mod Contract
pub mod Given
pub mod Examples
pub mod tally
