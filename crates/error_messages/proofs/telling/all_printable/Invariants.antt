use Rattle.std.proofs.Common.{All}
use Rattle.message_texts.specs.Texts.{IsNote}
use Rattle.error_messages.proofs.telling.all_printable.Given as goal

-- The notes so far are lines.
abbrev pub invariant-loop-note : goal.invariant-loop-note
invariant-loop-note l = All IsNote l.all.items
