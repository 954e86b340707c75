use Rattle.std.proofs.Common.{◌≡◌, drop, map}
use Rattle.disassembler.specs.Entries.{first_bad_entry}
use Rattle.disassembler.proofs.entries.entry_offsets.Given as goal

-- The first bad entry is among those that are left.
abbrev pub invariant-loop-word : goal.invariant-loop-word
invariant-loop-word l = first_bad_entry l.count (map (λ word. word.now) l.entries) ≡ first_bad_entry l.count (map (λ word. word.now) (drop l.word-index l.entries))
