-- The parts of a block as the code keeps them, as lines with their numbers in a call.
use Rattle.std.specs.Prelude.{ℕ, ◌+◌, List, [], Option, map, slice_index_or}
use Rattle.std.specs.Option.{unwrap_or}
use Rattle.asm_line.specs.Replacing.Replaced.{ReplacementTable}
use Rattle.asm_text.specs.declared.span.Span.{Span}
use Rattle.asm_text.specs.Lines.{Numbered}
use Rattle.asm_text.specs.Spans.{shown, text_of}
use Rattle.asm_text.specs.declared.stretch.Place.{Place}
use Rattle.asm_text.specs.declared.stretch.Stretch.{Stretch}
use Rattle.asm_text.specs.declared.stretch.Block.{Block}
use Rattle.asm_text.specs.declared.stretch.Choice.{Choice}
use Rattle.asm_text.specs.Sections.Blocks.{Section, BlockBody, Branches}

abbrev pub numbered_line : List (List ℕ) → Option ReplacementTable → Place → Numbered
numbered_line texts names p = record { number = p.number; text = shown names (slice_index_or texts p.at []) }

abbrev pub section_of : List (List ℕ) → Option ReplacementTable → Stretch → Section
section_of texts names s = record { lines = text_of texts names s.lines; end = numbered_line texts names s.end }

abbrev pub body_seen : List (List ℕ) → Option ReplacementTable → Block → BlockBody
body_seen texts names b = record { section = section_of texts names b.stretch; after = text_of texts names b.after }

abbrev pub branches_seen : List (List ℕ) → Option ReplacementTable → Choice → Branches
branches_seen texts names c =
    record { first = section_of texts names c.first; others = map (section_of texts names) c.others.items; after = text_of texts names c.after }

-- the first n lines of a span and the line that ends them; and the lines after that
abbrev pub front_of : Span → ℕ → Stretch
front_of s n = record { lines = record s { end = s.at + n }; end = record { at = s.at + n; number = unwrap_or s.number (s.at + n + 1) } }

abbrev pub behind_of : Span → ℕ → Span
behind_of s n = record s { at = s.at + n + 1 }
