mod Programs
mod Files
pub mod Agreement
pub mod Built_of
pub mod Carried
pub mod Exact
pub mod Judging
pub mod One_by_one
pub mod Coming_from
pub mod Renumbered
pub mod Symbols
pub mod One_answer
