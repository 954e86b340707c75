-- The labels of a program, by name.
use Rattle.std.specs.Prelude.{ℕ, List, [], ◌∷◌, ◌++◌, if◌then◌else◌, map}
use Rattle.std.specs.List.{flat_map}
use Rattle.std.specs.Cmp.Lexicographic.{slice_cmp}
use Rattle.std.specs.Ordering.{is_lt, nat_cmp}
use Rattle.zlink.specs.Linked.{Symbol, symbol_of}
use Rattle.zlink.specs.declared.building.Built as built
use Rattle.program_map.specs.Listings.Printed.{address_text, blanks, line_feed_text}

-- a label is inserted into a sorted list: after those whose names are less than its own, byte by byte
abbrev pub inserted : Symbol → List Symbol → List Symbol
inserted s [] = s ∷ []
inserted s (t ∷ ts) = if is_lt (slice_cmp nat_cmp t.name s.name) then t ∷ inserted s ts else s ∷ t ∷ ts

-- labels by name; those with the same name stay in their order
abbrev pub by_name : List Symbol → List Symbol
by_name [] = []
by_name (s ∷ ss) = inserted s (by_name ss)

-- the line of a label: its address, its module, its name
abbrev pub symbol_line : Symbol → List ℕ
symbol_line s = address_text s.place ++ blanks 1 ++ s.module_name ++ blanks 1 ++ s.name ++ line_feed_text

-- The symbols file: the labels by name, and those with the same name by module.
abbrev pub symbols : built.Built → List ℕ
symbols b = flat_map symbol_line (by_name (map symbol_of b.symbols.items))
