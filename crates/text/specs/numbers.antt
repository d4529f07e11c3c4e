-- The numbers of a line, as definitions that compute on lists of bytes, and what their readers promise. Assumes nothing.
pub mod Numbers
