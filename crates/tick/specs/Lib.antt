-- Rule Reading at a tick (02, ticket 9): the reading of a curve at a tick, step by step, and what is answered. Assumes nothing.
pub mod Reading
pub mod Carried
pub mod Told
pub mod Examples
