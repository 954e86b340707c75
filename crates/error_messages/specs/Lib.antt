pub use Rattle.message_texts.specs.Places
pub use Rattle.message_texts.specs.Texts
