-- What in a source without an error looks like a mistake.
use Rattle.std.specs.Prelude.{ℕ, ◌-◌, Bool, List, [], ◌∷◌, ◌++◌, Option, Some, None, Result, Ok, Err, if◌then◌else◌, is_some, slice_index_or}
use Rattle.std.specs.List.{flat_map}
use Rattle.std.specs.Str.{bytes_eq}
use Rattle.asm_spell.specs.Line as line
use Rattle.asm_spell.specs.Line.{Line}
use Rattle.asm_text.specs.Lines.{Numbered}
use Rattle.asm_macro.specs.Texts.{source_lines}
use Rattle.asm_module.specs.Reads.Read.{read_line}
use Rattle.asm_module.specs.declared.line_fault.LineFault.{LineFault}
use Rattle.source_warnings.specs.declared.warning.Kind.{Kind}
use Rattle.source_warnings.specs.declared.warning.Kind.TheVariants as kind
use Rattle.source_warnings.specs.declared.warning.SourceWarning as code
use Rattle.source_warnings.specs.Mentions.{mentions}
use Rattle.source_warnings.specs.Noted.{Noted, first_noted, noted_on}

-- a warning: the line with its number, the kind, and the name that it is about
pub record SourceWarning : Type 0 where
  pub line : Numbered
  pub kind : Kind
  pub name : List ℕ

abbrev pub warning_of : code.SourceWarning → SourceWarning
warning_of w = record { line = record { number = w.number; text = w.text.items }; kind = w.kind; name = w.name.items }

-- the line of the source with this number, as it is written
abbrev pub written_line : List ℕ → ℕ → List ℕ
written_line text number = slice_index_or (source_lines text) (number - 1) []

-- A line of the expansion is a line of the source as it is written. (A line of a call or of a repetition bears the number of the call or of
-- the REPT, and so it is another one.)
abbrev pub is_own : List ℕ → Numbered → Bool
is_own text l = bytes_eq l.text (written_line text l.number)

-- what a line parses as, if it can be parsed
abbrev pub line_read : Result Line LineFault → Option Line
line_read (Ok line) = Some line
line_read (Err why) = None

abbrev pub parsed_line : List ℕ → Option Line
parsed_line text = line_read (read_line text)

-- the label of a line, the names of a PUBLIC, and those of an EXTRN

abbrev pub label_read : Option Line → Option (List ℕ)
label_read (Some (line.Statement label body)) = label
label_read _ = None

abbrev pub publics_read : Option Line → List (List ℕ)
publics_read (Some (line.Statement label (Some (line.Public names)))) = names
publics_read _ = []

abbrev pub externals_read : Option Line → List (List ℕ)
externals_read (Some (line.Statement label (Some (line.External names)))) = names
externals_read _ = []

abbrev pub if_own : List ℕ → Numbered → List (List ℕ) → Noted
if_own text l names = if is_own text l then noted_on l.number names else []

-- the names of the PUBLIC lines among these, and of the EXTRN lines
abbrev pub publics_among : List ℕ → List Numbered → Noted
publics_among text lines = flat_map (λ l. if_own text l (publics_read (parsed_line l.text))) lines

abbrev pub externals_among : List ℕ → List Numbered → Noted
externals_among text lines = flat_map (λ l. if_own text l (externals_read (parsed_line l.text))) lines

abbrev pub warn : Numbered → Kind → List ℕ → List SourceWarning
warn l k name = record { line = l; kind = k; name = name } ∷ []

-- The label of a line, if the source does not mention it.
abbrev pub label_warnings : Noted → Numbered → Option (List ℕ) → List SourceWarning
label_warnings mentioned l None = []
label_warnings mentioned l (Some name) = if is_some (first_noted mentioned name) then [] else warn l kind.UnusedLabel name

-- A name of a PUBLIC, given the line with which an earlier PUBLIC notes it.
abbrev pub public_says : Numbered → List ℕ → Option ℕ → List SourceWarning
public_says l name (Some first) = warn l (kind.PublicAgain first) name
public_says l name None = []

-- A name of an EXTRN, given the line with which an earlier EXTRN notes it: it is there already, or no line mentions it.
abbrev pub external_says : Noted → Numbered → List ℕ → Option ℕ → List SourceWarning
external_says mentioned l name (Some first) = warn l (kind.ExternalAgain first) name
external_says mentioned l name None = if is_some (first_noted mentioned name) then [] else warn l kind.UnusedExternal name

-- the warnings about each name of a line, given the names that were noted before it
abbrev pub each_said : (List ℕ → Option ℕ → List SourceWarning) → ℕ → Noted → List (List ℕ) → List SourceWarning
each_said says number before [] = []
each_said says number before (name ∷ names) = says name (first_noted before name) ++ each_said says number (before ++ (name, number) ∷ []) names

-- the warnings about a line as it is written, given the names that the source mentions and those that PUBLIC and EXTRN lines before it have
abbrev pub own_warnings : Noted → Noted → Noted → Numbered → Option Line → List SourceWarning
own_warnings mentioned publics externals l read =
    label_warnings mentioned l (label_read read) ++ each_said (public_says l) l.number publics (publics_read read)
    ++ each_said (external_says mentioned l) l.number externals (externals_read read)

abbrev pub line_warnings : List ℕ → List Numbered → Numbered → List SourceWarning
line_warnings text before l =
    if is_own text l then own_warnings (mentions text) (publics_among text before) (externals_among text before) l (parsed_line l.text) else []

-- the warnings about lines after others, in their order
abbrev pub warnings_after : List ℕ → List Numbered → List Numbered → List SourceWarning
warnings_after text before [] = []
warnings_after text before (l ∷ ls) = line_warnings text before l ++ warnings_after text (before ++ l ∷ []) ls
