-- Only private contracts cite these definitions, so a reviewer may skip them.
pub mod Views
pub mod Laying
pub mod Defined
pub mod Filled
