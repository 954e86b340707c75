-- What the code knows of names that were noted.
use Rattle.std.specs.Prelude.{◌≡◌, ℕ, List, [], Option, Some}
use Rattle.asm_text.specs.Lines.{Numbered}
use Rattle.asm_macro.specs.declared.whole.ExpandedLine.{ExpandedLine}
use Rattle.asm_spell.specs.Line as line
use Rattle.asm_spell.specs.Line.{Body}
use Rattle.source_warnings.specs.declared.own.Word.{Word}
use Rattle.source_warnings.specs.declared.own.Before.{Before}
use Rattle.source_warnings.specs.Mentions.{mentions}
use Rattle.source_warnings.specs.Noted.{Noted, first_noted}
use Rattle.source_warnings.specs.Warnings.{SourceWarning, external_says, externals_among, public_says, publics_among}

-- One list notes each name first with the same line as the other.
abbrev pub Agrees : Noted → Noted → Type 0
Agrees one other = (name : List ℕ) → first_noted one name ≡ first_noted other name

-- the warnings about a name of a PUBLIC or an EXTRN
abbrev pub says : Word → Noted → Numbered → List ℕ → Option ℕ → List SourceWarning
says Word.Public mentioned l = public_says l
says Word.Extrn mentioned l = external_says mentioned l

-- the names of a statement, if it is a PUBLIC, and if it is an EXTRN
abbrev pub publics_in : Option Body → List (List ℕ)
publics_in (Some (line.Public names)) = names
publics_in _ = []

abbrev pub externals_in : Option Body → List (List ℕ)
externals_in (Some (line.External names)) = names
externals_in _ = []

-- What is known after some lines.
pub record Knows (text : List ℕ) (lines : List Numbered) (before : Before) : Type 0 where
  pub known : Agrees before.mentioned (mentions text)
  pub publics_noted : Agrees before.publics (publics_among text lines)
  pub externals_noted : Agrees before.externals (externals_among text lines)

abbrev pub line_seen : ExpandedLine → Numbered
line_seen l = record { number = l.number; text = l.text.items }
