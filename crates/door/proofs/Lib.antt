-- What the composer is given and gives at the door, and what is answered there fits a reply. Assumes nothing.
pub mod Composing
pub mod Sending
pub mod Room
