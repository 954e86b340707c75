pub mod Texts
pub mod Postfix
pub mod Field
