-- What carrying a night through the converter promises of the bytes that were read, and the line that is printed. Assumes nothing.
pub mod Carried
pub mod Verdict
pub mod converter
