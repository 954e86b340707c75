-- The label of an address.
use Rattle.std.specs.Prelude.{◌-◌, ◌==◌, ◌&&◌, ℕ, List, [], ◌∷◌, ◌++◌, Bool, Option, Some, None, if◌then◌else◌, codes, decimal, filter, find, max, nat_le, nat_lt, reverse}
use Rattle.std.specs.Option.{option_map}
use Rattle.std.specs.Str.{str_eq_ignore_ascii_case}
use Rattle.state_text.specs.declared.labels.Symbol.{Symbol}
use Rattle.state_text.specs.declared.labels.Named.{Named}
use Rattle.state_text.specs.Printing.Columns.{word_text}

-- the labels of a program, each with its address, in the order of their file; and the number of the program's bytes
pub record Known : Type 0 where
  pub labels : List (ℕ × List ℕ)
  pub size : ℕ

-- an address and a name
abbrev pub parts_of : Named → ℕ × List ℕ
parts_of label = (label.address, label.name.items)

abbrev pub symbol_parts : Symbol → ℕ × List ℕ
symbol_parts symbol = (symbol.address, symbol.name.now)

-- the address of the first of these labels with this name, in upper or lower case
abbrev pub first_named : List (ℕ × List ℕ) → List ℕ → Option ℕ
first_named labels name = option_map (λ label. label.0) (find (λ label. str_eq_ignore_ascii_case label.1 name) labels)

-- LABEL
abbrev pub address_of_label : Known → List ℕ → Option ℕ
address_of_label known name = first_named known.labels name

-- the labels that are not above an address
abbrev pub labels_up_to : ℕ → List (ℕ × List ℕ) → List (ℕ × List ℕ)
labels_up_to address labels = filter (λ label. nat_le label.0 address) labels

-- the highest address of these labels; 0 if there are none
abbrev pub highest_address : List (ℕ × List ℕ) → ℕ
highest_address [] = 0
highest_address (label ∷ labels) = max label.0 (highest_address labels)

-- the last of these labels at an address
abbrev pub last_label_at : ℕ → List (ℕ × List ℕ) → Option (ℕ × List ℕ)
last_label_at address labels = find (λ label. label.0 == address) (reverse labels)

-- the nearest label: of the labels that are not above an address, the last one at their highest address
abbrev pub label_up_to : List (ℕ × List ℕ) → ℕ → Option (ℕ × List ℕ)
label_up_to labels address = last_label_at (highest_address (labels_up_to address labels)) labels

abbrev pub is_in_program : ℕ → ℕ → Bool
is_in_program size address = nat_le 0x100 address && nat_lt (address - 0x100) size

-- a label's name, and how many bytes after the label an address is
abbrev pub offset_from : ℕ → ℕ × List ℕ → List ℕ × ℕ
offset_from address label = (label.1, address - label.0)

-- the nearest label of an address of the program
abbrev pub nearest_label : Known → ℕ → Option (List ℕ × ℕ)
nearest_label known address = if is_in_program known.size address then option_map (offset_from address) (label_up_to known.labels address) else None

-- the label with which a debugger prints an address: for an address of the program its nearest label; for another, the last label at just that
-- address
abbrev pub target_label : Known → ℕ → Option (List ℕ × ℕ)
target_label known address = if is_in_program known.size address then nearest_label known address else option_map (offset_from address) (last_label_at address known.labels)

abbrev pub offset_text : ℕ → List ℕ
offset_text n = if n == 0 then [] else codes "+" ++ decimal n

-- a label and the offset in decimal, as in START+5; `-` if there is no label
abbrev pub nearest_text : Option (List ℕ × ℕ) → List ℕ
nearest_text None = codes "-"
nearest_text (Some label) = label.0 ++ offset_text label.1

-- a blank and a label with the distance from it, if there is one
abbrev pub label_after : Option (List ℕ × ℕ) → List ℕ
label_after None = []
label_after (Some label) = codes " " ++ label.0 ++ offset_text label.1

-- an address in four hexadecimal digits, with its label, if it has one
abbrev pub labelled_address : Known → ℕ → List ℕ
labelled_address known address = word_text address ++ label_after (target_label known address)
