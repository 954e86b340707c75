use Rattle.std.proofs.Common.{string_bytes}
use Rattle.message_texts.specs.Texts.{IsOneLine}
use Rattle.message_texts.proofs.showing.shown.Given as goal

-- What is written so far is one line.
abbrev pub invariant-loop-byte : goal.invariant-loop-byte
invariant-loop-byte l = IsOneLine (string_bytes l.text)
