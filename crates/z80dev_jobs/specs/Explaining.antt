-- How `explain` ends.
use Rattle.std.specs.Prelude.{◌≡◌, ◌⊎◌, ℕ, Bool, true, false, List, Option, None, Some, codes, if◌then◌else◌, map, string_bytes}
use Rattle.std.specs.Borrow.{Bor}
use Rattle.std.specs.Str.{bytes_eq}
use Rattle.host.specs.Streams.Stream.{Stream}
use Rattle.host.specs.Streams.Writing.{PrintsAll, PutsFront}
use Rattle.z80dev_commands.specs.declared.job.Explain.{Explain}
use Rattle.z80dev_explain.specs.Explanation.{IsExplanation}
use Rattle.z80dev_explain.specs.declared.explaining.Asked.{Asked}
use Rattle.report_texts.specs.declared.printing.Form.{Form}
use Rattle.report_texts.specs.declared.printing.Form.TheVariants as form
use Rattle.host.specs.declared.end.End.{End}
use Rattle.host.specs.declared.end.End.TheVariants as end
use Rattle.report_texts.specs.declared.front.SourceFile.{SourceFile}
use Rattle.report_texts.specs.declared.front.Front.{Front}
use Rattle.z80dev.specs.Making.{AreFiles, IsFront, shared_paths}
use Rattle.host.specs.Ending.{Effect, WithAll}

-- Exactly this text is printed. Then the command is refused with the summary; without one, all is done.
abbrev pub PrintsWith : List ℕ → Option (List ℕ) → Stream → Stream → End → Type 0
PrintsWith text summary before after end.Done = (summary ≡ None) × PrintsAll before after text
PrintsWith text summary before after (end.Refused said) = (summary ≡ Some (string_bytes said)) × PrintsAll before after text
PrintsWith text summary before after end.Stream = PutsFront before after text
PrintsWith text summary before after _ = ⊥

abbrev pub explained_paths : Explain → List (List ℕ)
explained_paths explain = map (λ path. path.now) explain.sources.items

-- An explanation is in colours if they are asked for, or if nothing is asked and standard output is a terminal.
abbrev pub is_colored : Option (Bor (List ℕ)) → Bool → Bool
is_colored None is_terminal = is_terminal
is_colored (Some when) is_terminal = if bytes_eq when.now (codes "always") then true else if bytes_eq when.now (codes "never") then false else is_terminal

-- how it is printed: as JSON if that is asked for, and otherwise in colours or without
abbrev pub form_for : Bool → Option (Bor (List ℕ)) → Bool → Form
form_for true color is_terminal = form.Json
form_for false color is_terminal = if is_colored color is_terminal then form.Colored else form.Plain

-- what is asked about sources
abbrev pub asked_of : Explain → Bool → Asked
asked_of explain is_terminal = record { grow = explain.grow; jumps = explain.jumps; form = form_for explain.json explain.color is_terminal }

-- An explanation is printed of the sources, with definitions and shared files before each of them, all of which were read.
abbrev pub PrintsExplanation : Explain → Bool → List (List ℕ) → List (List ℕ) → Stream → Stream → End → Type 0
PrintsExplanation explain is_terminal fronts texts before after e = (front : Front) × (files : List SourceFile) × (text : List ℕ) × (summary : Option (List ℕ))
    × IsFront explain.shared fronts front × AreFiles (explained_paths explain) texts files
    × IsExplanation front (asked_of explain is_terminal) files text summary × PrintsWith text summary before after e

-- It is printed; or memory ran out for it, and nothing is printed.
abbrev pub Explains : Explain → Bool → List (List ℕ) → List (List ℕ) → Stream → Stream → End → Type 0
Explains explain is_terminal fronts texts before after e = PrintsExplanation explain is_terminal fronts texts before after e ⊎ ((e ≡ end.NoMemory) × (after ≡ before))

-- `explain`: the shared files and then the sources are read in the order of the words, and an explanation of them is printed. No file is
-- written. Standard output is a terminal, or not.
abbrev pub ExplainEnds : Explain → Bool → Effect → End → Type 0
ExplainEnds explain is_terminal x e = WithAll (shared_paths explain.shared) (λ fronts. WithAll (explained_paths explain)
    (λ texts. (x.new ≡ x.old) × Explains explain is_terminal fronts texts x.before x.after e) x e) x e
