-- Private contracts use these definitions, and so does Scanned. A reviewer may skip them: `laws::scanned` says that what Scanned finds is
-- what Scans means.
pub mod Reading
pub mod Places
