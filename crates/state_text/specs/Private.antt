-- What private contracts say.
pub mod Numbers
pub mod Rows
