-- Cells: the bytes of a file in the order of source lines.
use Rattle.std.specs.Prelude.{◌≡◌, ℕ, ◌<◌, ◌==◌, ◌&&◌, ◌||◌, ◌⊎◌, Bool, false, nat_lt, List, [], ◌∷◌, map, filter, take}
use Rattle.std.specs.List.{AllByRecursion, enumerate_from, flat_map}
use Rattle.asm_macro.specs.Texts.{source_lines}
use Rattle.std.specs.declared.cmp.Ordering.{Ordering}
use Rattle.std.specs.Ordering.{is_gt, nat_cmp, ordering_then}
use Rattle.program_map.specs.declared.listings.cells.Cell.{Cell}
use Rattle.program_map.specs.Listings.Printed.{Byte, listed_line}
use Rattle.program_map.specs.Listings.Listing.{ListedStatement}

-- the byte of a cell
abbrev pub byte_of : Cell → Byte
byte_of c = record { number = c.number; value = c.value }

abbrev pub cell_of : ℕ → ℕ → Byte → Cell
cell_of source line b = record { source = source; line = line; number = b.number; value = b.value }

-- the cells of a statement
abbrev pub cells_in : ListedStatement → List Cell
cells_in p = map (cell_of p.source p.line) p.bytes

abbrev pub is_on : ℕ → ℕ → Cell → Bool
is_on source line c = (c.source == source) && (c.line == line)

abbrev pub is_before : ℕ → ℕ → Cell → Bool
is_before source line c = nat_lt c.source source || ((c.source == source) && nat_lt c.line line)

-- by source, and then by line
abbrev pub line_cmp : Cell → Cell → Ordering
line_cmp a b = ordering_then (nat_cmp a.source b.source) (nat_cmp a.line b.line)

-- the list is sorted: no element comes after a greater one
abbrev pub IsAscending : {X : Type 0} → (X → X → Ordering) → List X → Type 0
IsAscending cmp [] = Unit {0}
IsAscending cmp (x ∷ xs) = AllByRecursion (λ y. is_gt (cmp x y) ≡ false) xs × IsAscending cmp xs

abbrev pub Ascends : List Cell → Type 0
Ascends = IsAscending line_cmp

-- the list `some` is sorted, and for each line for which P holds, it has the same cells as the list `all`
pub record HasLines (P : ℕ → ℕ → Type 0) (some all : List Cell) : Type 0 where
  pub ascends : Ascends some
  pub lines : (source line : ℕ) → P source line → filter (is_on source line) some ≡ filter (is_on source line) all

-- one line comes after another
abbrev pub IsBehind : ℕ → ℕ → ℕ → ℕ → Type 0
IsBehind source line other_source other_line = (source < other_source) ⊎ ((source ≡ other_source) × (line < other_line))

-- bytes with their numbers, which begin with this one
abbrev pub bytes_from : ℕ → List ℕ → List Byte
bytes_from number values = map (λ b. record { number = b.0; value = b.1 }) (enumerate_from number values)

-- lines of a source, numbered from this one, each with its bytes among some cells
abbrev pub lines_with : ℕ → List Cell → ℕ → List (List ℕ) → List ℕ
lines_with source cells first texts = flat_map (λ l. listed_line l.1 (map byte_of (filter (is_on source l.0) cells))) (enumerate_from first texts)

-- the lines of a source up to the last that is listed
abbrev pub source_with : ℕ → List Cell → ℕ → List ℕ → List ℕ
source_with source cells last text = lines_with source cells 1 (take last (source_lines text))
