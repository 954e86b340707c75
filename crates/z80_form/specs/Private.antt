-- Private contracts use these definitions, and so does Spelling. A reviewer may skip them: `laws::spelled` says that the instruction that
-- Spelling finds is what Spells means.
pub mod Lists
pub mod Reading
