-- The answer line of a request, as bytes by definition. Assumes nothing.
pub mod Reply
