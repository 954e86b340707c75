-- The bytes of statements.
use Rattle.std.proofs.Common.{◌≡◌, ◌∙◌, ◌+◌, ◌-◌, ◌<◌, ◌==◌, ◌&&◌, ℕ, zero, suc, Bool, true, false, cond, Option, None, Some, List, [], ◌∷◌, ◌++◌, length, get_or, map, filter, take, drop, refl, ap, arith, append_assoc}
use Rattle.std.specs.List.{flat_map}
use Rattle.std.proofs.lemmas.List.{drop_more, map-append}
use Rattle.std.proofs.lemmas.List.Elements.{filter-append}
use Rattle.common.specs.declared.limits.TheConstants.{FIRST_PLACE}
use Rattle.program_map.specs.declared.listings.cells.Cell.{Cell}
use Rattle.program_map.specs.Listings.Printed.{Byte}
use Rattle.program_map.specs.Listings.Listing.{ListedStatement, file_between, file_bytes, line_bytes}
use Rattle.program_map.specs.Private.Runs.{byte_of, bytes_from, cell_of, cells_in, is_on}

drop_from : (n m : ℕ) (values : List ℕ) → drop n (bytes_from m values) ≡ bytes_from (m + n) (drop n values)
drop_from zero m values = ap (λ k. bytes_from k values) (omega arith)
drop_from (suc n) m [] = refl
drop_from (suc n) m (v ∷ values) = drop_from n (m + 1) values ∙ ap (λ k. bytes_from k (drop n values)) (omega arith)

take_from : (n m : ℕ) (values : List ℕ) → take n (bytes_from m values) ≡ bytes_from m (take n values)
take_from zero m values = refl
take_from (suc n) m [] = refl
take_from (suc n) m (v ∷ values) = ap (λ bs. record { number = m; value = v } ∷ bs) (take_from n (m + 1) values)

from_place : (place : ℕ) (file : List ℕ) → drop (place - FIRST_PLACE) (file_bytes file) ≡ bytes_from (place - FIRST_PLACE) (drop (place - FIRST_PLACE) file)
from_place place file = drop_from (place - FIRST_PLACE) 0 file ∙ ap (λ k. bytes_from k (drop (place - FIRST_PLACE) file)) (omega arith)

pub between_bytes : (place : ℕ) (next : Option ℕ) (file : List ℕ) → file_between place next (file_bytes file) ≡ bytes_from (place - FIRST_PLACE) (file_between place next file)
between_bytes place None file = from_place place file
between_bytes place (Some next) file =
    ap (take (next - place)) (from_place place file) ∙ take_from (next - place) (place - FIRST_PLACE) (drop (place - FIRST_PLACE) file)

-- one more byte
pub pushed : (cells : List Cell) (source line first index : ℕ) (values : List ℕ) → index < length values →
    (cells ++ record { source = source; line = line; number = first + index; value = get_or values index 0 } ∷ []) ++ map (cell_of source line) (bytes_from (first + (index + 1)) (drop (index + 1) values))
    ≡ cells ++ map (cell_of source line) (bytes_from (first + index) (drop index values))
pushed cells source line first index values within =
    let e : first + index + 1 ≡ first + (index + 1) = omega arith in
    rw (append_assoc, drop_more values index 0 within, e) refl

-- the cells of a line are its bytes
on_part : (source line : ℕ) (p : ListedStatement) (t : Bool) → ((p.source == source) && (p.line == line)) ≡ t → (bytes : List Byte)
    → map byte_of (filter (is_on source line) (map (cell_of p.source p.line) bytes)) ≡ cond t bytes []
on_part source line p true e [] = refl
on_part source line p true e (b ∷ bs) = rw e (ap (λ x. b ∷ x) (on_part source line p true e bs))
on_part source line p false e [] = refl
on_part source line p false e (b ∷ bs) = rw e (on_part source line p false e bs)

with_part : (t : Bool) (p : ListedStatement) (ps : List ListedStatement) → cond t p.bytes [] ++ flat_map (λ p. p.bytes) ps ≡ flat_map (λ p. p.bytes) (cond t (p ∷ ps) ps)
with_part true p ps = refl
with_part false p ps = refl

pub line_is : (source line : ℕ) (ps : List ListedStatement) → map byte_of (filter (is_on source line) (flat_map cells_in ps)) ≡ line_bytes ps source line
line_is source line [] = refl
line_is source line (p ∷ ps) =
    let here : map byte_of (filter (is_on source line) (cells_in p)) ≡ cond ((p.source == source) && (p.line == line)) p.bytes [] = on_part source line p _ refl p.bytes in
    rw (filter-append, map-append, here, line_is source line ps) (with_part _ p (filter (λ p. (p.source == source) && (p.line == line)) ps))
