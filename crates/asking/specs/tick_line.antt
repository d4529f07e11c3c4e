-- What a tick line says and its answer line, as bytes by definition, and what its readers promise. Assumes nothing.
pub mod Line
pub mod Read
