-- The symbols of a program as the files that debuggers read.
use Rattle.std.specs.Prelude.{ℕ, Bool, not, List, [], ◌∷◌, ◌++◌, codes, filter, map, take}
use Rattle.std.specs.List.{flat_map}
use Rattle.std.specs.Str.{bytes_eq}
use Rattle.zlink.specs.Linked.{Symbol}
use Rattle.program_map.specs.declared.symbol_files.form.SymbolForm.{SymbolForm}
use Rattle.program_map.specs.Named.{NamedPlace, by_address}
use Rattle.program_map.specs.Printed.{address_text, blanks, line_feed_text}

-- a name that LOCAL made: it begins with ??
abbrev pub is_made_by_local : List ℕ → Bool
is_made_by_local name = bytes_eq (take 2 name) (codes "??")

-- the most characters of a name of MAC, whose files SID reads
abbrev pub longest_sid_name : ℕ
longest_sid_name = 16

-- AAAA NAME, CR, LF
abbrev pub sid_line : NamedPlace → List ℕ
sid_line n = address_text n.place ++ blanks 1 ++ take longest_sid_name n.name ++ 0x0D ∷ 0x0A ∷ []

-- a command of ucsim that gives the name to an address of its memory
abbrev pub ucsim_line : NamedPlace → List ℕ
ucsim_line n = codes "var " ++ n.name ++ codes " rom 0x" ++ address_text n.place ++ line_feed_text

-- a line for each name; SID's file ends with the byte 1AH, as texts of CP/M do
abbrev pub printed_in : SymbolForm → List NamedPlace → List ℕ
printed_in SymbolForm.Sid names = flat_map sid_line names ++ 0x1A ∷ []
printed_in SymbolForm.Ucsim names = flat_map ucsim_line names

-- a label as a name with its address
abbrev pub label_named : Symbol → NamedPlace
label_named s = record { place = s.place; name = s.name }

-- The file: the labels by address, without those that LOCAL made.
abbrev pub symbol_file : SymbolForm → List Symbol → List ℕ
symbol_file form symbols = printed_in form (by_address (filter (λ n. not (is_made_by_local n.name)) (map label_named symbols)))
