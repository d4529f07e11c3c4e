-- Text put on a page. Assumes nothing.
pub mod Page
pub mod Form
pub mod Paper
