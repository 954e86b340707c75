-- The first line with END among those that are left.
use Rattle.std.proofs.Common.{◌≡◌, ◌∙◌, ◌<◌, ◌≤◌, ◌+◌, ℕ, List, length, drop, get_or}
use Rattle.std.proofs.lemmas.List.{at_drop_more, at_drop_all}
use Rattle.asm_spell.specs.Line.{line_of}
use Rattle.asm_names.specs.Lines.{lines_of}
use Rattle.asm_names.specs.declared.kind.SourceLine.{SourceLine}
use Rattle.asm_module.specs.Reads.Source.{end_or, last_listed}

pub here : (last : ℕ) (lines : List SourceLine) (k : ℕ) (d : SourceLine) → k < length lines → ((number other : ℕ) → end_or number other (line_of (get_or lines k d).line) ≡ number)
    → last_listed last (lines_of (drop k lines)) ≡ (get_or lines k d).number
here last lines k d lt is =
    at_drop_more (λ ls. last_listed last (lines_of ls)) lines k d lt ∙ is (get_or lines k d).number (last_listed last (lines_of (drop (k + 1) lines)))

pub later : (last : ℕ) (lines : List SourceLine) (k : ℕ) (d : SourceLine) → k < length lines → ((number other : ℕ) → end_or number other (line_of (get_or lines k d).line) ≡ other)
    → last_listed last (lines_of (drop k lines)) ≡ last_listed last (lines_of (drop (k + 1) lines))
later last lines k d lt is =
    at_drop_more (λ ls. last_listed last (lines_of ls)) lines k d lt ∙ is (get_or lines k d).number (last_listed last (lines_of (drop (k + 1) lines)))

pub none : (last : ℕ) (lines : List SourceLine) (k : ℕ) → length lines ≤ k → last_listed last (lines_of (drop k lines)) ≡ last
none last lines k le = at_drop_all (λ ls. last_listed last (lines_of ls)) lines k le
