-- Pascal's triangle: the table, and what is answered from it. Assumes nothing.
pub mod Entry
pub mod Table
