pub mod In_order
pub mod Written
pub mod Held
pub mod Warned_program
pub mod By_kind
