-- Laws of the two arrays under way, and what the judgement comes to. Assumes nothing.
pub mod Placing
