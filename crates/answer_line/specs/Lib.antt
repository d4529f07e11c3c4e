-- Answer lines as text, as definitions that compute on lists of bytes. Assumes nothing.
pub mod Answer
