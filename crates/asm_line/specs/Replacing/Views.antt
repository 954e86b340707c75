-- The names of a macro, and what a call replaces them by, as tables.
use Rattle.std.specs.Prelude.{ℕ, ◌+◌, List, [], map, slice_index_or, Vec}
use Rattle.std.specs.Global.{Global}
use Rattle.asm_line.specs.declared.replacing.names.NameKind.{NameKind}
use Rattle.asm_line.specs.declared.replacing.names.Names.{Names}
use Rattle.asm_line.specs.declared.replacing.names.Place.{Place}
use Rattle.asm_line.specs.declared.replacing.whole_names.Replacements.{Replacements}
use Rattle.asm_line.specs.Replacing.Replaced.{ReplacementTable, local_name}

abbrev pub texts : List (Vec ℕ Global) → List (List ℕ)
texts all = map (λ text. text.items) all

-- each name with what f gives for its place
abbrev pub names_seen : {X : Type 0} → (X → List ℕ) → List (Vec ℕ Global × X) → ReplacementTable
names_seen f entries = map (λ e. (e.0.items, f e.1)) entries

-- what replaces the name at a place in a call: its argument, which is empty if it is missing; or the LOCAL name of its number
abbrev pub replacement_by : List (List ℕ) → ℕ → NameKind → ℕ → List ℕ
replacement_by arguments counter NameKind.Parameter at = slice_index_or arguments at []
replacement_by arguments counter NameKind.Local at = local_name (counter + at)

abbrev pub replacement_at : List (List ℕ) → ℕ → Place → List ℕ
replacement_at arguments counter place = replacement_by arguments counter place.kind place.at

-- the names of a macro, each with what replaces it in a call with these arguments, given the number of the call's first LOCAL name
abbrev pub in_call : Names → List (List ℕ) → ℕ → ReplacementTable
in_call names arguments counter = names_seen (replacement_at arguments counter) names.places.entries

-- what the names of a call are replaced by
unfoldable pub replacement_table : Replacements → ReplacementTable
replacement_table r = in_call r.names.value (texts r.arguments.items) r.counter
