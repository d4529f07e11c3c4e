-- What the answering of an input promises. Assumes nothing.
pub mod Told
pub mod Asked
pub mod answers
-- what each kind of line says, and its answer line
pub mod reply
pub mod tick_line
pub mod patch_line
