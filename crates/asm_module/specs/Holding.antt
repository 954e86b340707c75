-- What a module has besides its statements: labels, public labels, externals and an entry.
-- In words: docs/LANGUAGE.md, section 'Modules'.
use Rattle.std.specs.Prelude.{ℕ, Bool, true, false, List, [], Option, Some, None, if◌then◌else◌, slice_get}
use Rattle.std.specs.List.{enumerate_from, filter_map, flat_map, list_any, position_from}
use Rattle.std.specs.Option.{option_and_then}
use Rattle.std.specs.Str.{bytes_eq}
use Rattle.asm_spell.specs.Line as line
use Rattle.asm_spell.specs.Line.{Line}
use Rattle.asm_names.specs.declared.kind.Kind.{Kind}
use Rattle.asm_names.specs.Lines.{Taken}
use Rattle.asm_names.specs.Names.{Names}
use Rattle.asm_names.specs.Layout.{Layout, next_at}
use Rattle.zmo_object.specs.Modules.{Label}

abbrev pub label_in : Layout → List ℕ × Kind → Option Label
label_in layout (name, Kind.Label at) = Some (record { statement = next_at layout at; name = name })
label_in layout _ = None

-- the labels, in the order in which they are defined
abbrev pub labels : Layout → Names → List Label
labels layout names = filter_map (label_in layout) names

abbrev pub is_origin_line : Line → Bool
is_origin_line (line.Statement label (Some (line.Origin e))) = true
is_origin_line _ = false

-- one of the lines is an ORG
abbrev pub begins : List Taken → Bool
begins lines = list_any (λ l. is_origin_line l.line) lines

abbrev pub public_in : Line → List (List ℕ)
public_in (line.Statement label (Some (line.Public list))) = list
public_in _ = []

-- the names that PUBLIC lines list
abbrev pub listed : List Taken → List (List ℕ)
listed lines = flat_map (λ l. public_in l.line) lines

abbrev pub public_by : List (List ℕ) → ℕ × Label → Option ℕ
public_by names (number, l) = if list_any (bytes_eq l.name) names then Some number else None

-- the numbers of the labels that are listed, ascending, each once
abbrev pub publics : List Label → List (List ℕ) → List ℕ
publics labels names = filter_map (public_by names) (enumerate_from 0 labels)

abbrev pub entry_in : Line → Option (List ℕ)
entry_in (line.Statement label (Some (line.End entry))) = entry
entry_in _ = None

-- the name in an END line (at most one line is an END, the last one)
abbrev pub entry_name : List Taken → Option (List ℕ)
entry_name lines = slice_get (filter_map (λ l. entry_in l.line) lines) 0

-- the number of the label with this name
abbrev pub label_number : List Label → List ℕ → Option ℕ
label_number labels name = position_from (λ l. bytes_eq name l.name) 0 labels

abbrev pub entry : List Label → List Taken → Option ℕ
entry labels lines = option_and_then (label_number labels) (entry_name lines)
