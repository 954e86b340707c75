-- What the texts of messages are made of.
use Rattle.std.specs.Prelude.{◌≤◌, ◌<◌, ℕ, List, All, string_bytes}
use Rattle.message_texts.specs.declared.parts.Note.{Note}
use Rattle.message_texts.specs.declared.parts.Message.{Message}

-- The text is one line: each byte is printable ASCII.
abbrev pub IsOneLine : List ℕ → Type 0
IsOneLine bytes = All (λ b. (32 ≤ b) × (b < 127)) bytes

abbrev pub IsNote : Note → Type 0
IsNote (Note.Help text) = IsOneLine (string_bytes text)
IsNote (Note.Note text) = IsOneLine (string_bytes text)

-- Each text of the message is one line.
pub record HasLines (message : Message) : Type 0 where
  pub text : IsOneLine (string_bytes message.text)
  pub notes : All IsNote message.notes.items
