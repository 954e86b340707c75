-- Where the code continues, in the terms of the definitions.
use Rattle.std.specs.Prelude.{ℕ, List, [], ◌∷◌, Option, map}
use Rattle.asm_line.specs.Replacing.Replaced.{ReplacementTable}
use Rattle.asm_text.specs.Lines.{Numbered}
use Rattle.asm_text.specs.Spans.{text_of}
use Rattle.asm_text.specs.declared.following.Following.{Following}
use Rattle.asm_text.specs.declared.following.Onward as kept
use Rattle.asm_text.specs.Sections.Blocks.{Section}
use Rattle.asm_text.specs.Sections.Onward as onward
use Rattle.asm_text.specs.Sections.Sections.{body_seen, branches_seen, section_of}

-- what follows the second branch of an IF, given the branches after the first
abbrev pub behind_other : List Section → List Numbered → onward.Next
behind_other [] after = onward.Rest after
behind_other (t ∷ more) after = onward.BehindSecond t more after

abbrev pub next_of : List (List ℕ) → Option ReplacementTable → Following → onward.Next
next_of texts names (Following.Rest s) = onward.Rest (text_of texts names s)
next_of texts names (Following.BehindFirst c) = onward.BehindFirst (branches_seen texts names c)
next_of texts names (Following.BehindSecond c) = behind_other (map (section_of texts names) c.others.items) (text_of texts names c.after)
next_of texts names (Following.Turns left number body) = onward.Turns left number (body_seen texts names body)

abbrev pub onward_seen : List (List ℕ) → Option ReplacementTable → kept.Onward → onward.Onward
onward_seen texts names (kept.Onward.Stray number) = onward.Stray number
onward_seen texts names (kept.Onward.On s) = onward.On (text_of texts names s)
onward_seen texts names (kept.Onward.Into s following) = onward.Into (text_of texts names s) (next_of texts names following)
