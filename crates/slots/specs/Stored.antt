-- How slots are stored in pages. No public clause cites it.
pub mod Pages
