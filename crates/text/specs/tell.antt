-- What is answered to and told of a line that cannot be read, as bytes by definition. Assumes nothing.
pub mod Tell
