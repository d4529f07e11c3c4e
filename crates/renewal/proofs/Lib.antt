-- Laws of a night that is carried through the converter. Assumes nothing.
pub mod Carrying
