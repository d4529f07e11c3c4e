-- The steps' laws: what a number is and how large, and that the arrays hold the nets that an argument makes. Assumes nothing.
pub mod Mixing
pub mod Fronts
pub mod Slides
pub mod Triangles
pub mod Rising
