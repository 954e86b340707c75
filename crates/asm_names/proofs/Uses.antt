-- For each line, the list of the lines that it uses.
use Rattle.std.proofs.Common.{◌≡◌, ◌<◌, ◌∙◌, sym, ap, refl, ℕ, zero, suc, List, [], ◌∷◌, Option, Some, None, Vec, length, map, get_or, arith}
use Rattle.std.specs.List.{filter_map, slice_get, cons_option}
use Rattle.std.specs.Option.{unwrap_or}
use Rattle.std.specs.Global.{Global}
use Rattle.std.proofs.Math.Path.{fun_ext}
use Rattle.std.proofs.lemmas.List.{length-map}
use Rattle.asm_parse.specs.declared.item.Item.{Item}
use Rattle.asm_parse.specs.Source.{Operand}
use Rattle.asm_names.specs.declared.walk.Turn.{Turn}
use Rattle.asm_names.specs.Orders.Order.{NameOnlyDefinitions, IsOrder, named_by}
use Rattle.asm_names.specs.Lines.{Taken}
use Rattle.asm_names.specs.Names.{Names}
use Rattle.asm_names.specs.Circles.{equ_items, line_named, lines_named}
use Rattle.asm_names.specs.Private.Bounds.{AreBelow}
use Rattle.asm_names.proofs.Below.{line_below}

abbrev used : Names → Taken → List ℕ
used names l = filter_map (line_named names) (equ_items l.line)

abbrev pub uses_in : Names → List Taken → List (List ℕ)
uses_in names lines = map (used names) lines

-- the entry of the list of lists for line k
named_items : (uses : List (Vec ℕ Global)) (k : ℕ) → named_by uses k ≡ unwrap_or (slice_get (map (λ some. some.items) uses) k) []
named_items [] k = refl
named_items (u ∷ us) zero = refl
named_items (u ∷ us) (suc k) = named_items us k

lines_items : (names : Names) (lines : List Taken) (k : ℕ) → lines_named names lines k ≡ unwrap_or (slice_get (uses_in names lines) k) []
lines_items names [] k = refl
lines_items names (l ∷ ls) zero = refl
lines_items names (l ∷ ls) (suc k) = lines_items names ls k

same_uses : (uses : List (Vec ℕ Global)) (names : Names) (lines : List Taken) → map (λ some. some.items) uses ≡ uses_in names lines → named_by uses ≡ lines_named names lines
same_uses uses names lines is = fun_ext (λ k. named_items uses k ∙ ap (λ all. unwrap_or (slice_get all k) []) is ∙ sym (lines_items names lines k))

same_length : (uses : List (Vec ℕ Global)) (names : Names) (lines : List Taken) → map (λ some. some.items) uses ≡ uses_in names lines → length uses ≡ length lines
same_length uses names lines is = sym (length-map uses (λ some. some.items)) ∙ ap length is ∙ length-map lines (used names)

-- each number in the list is that of a line
with_one : (n d : ℕ) (o : Option ℕ) (rest : List ℕ) → ((at : ℕ) → o ≡ Some at → at < n) → ((k : ℕ) → k < length rest → get_or rest k d < n)
    → (k : ℕ) → k < length (cons_option o rest) → get_or (cons_option o rest) k d < n
with_one n d None rest one all k lt = all k lt
with_one n d (Some at) rest one all zero lt = one at refl
with_one n d (Some at) rest one all (suc k) lt = all k (omega arith)

used_below : (n d : ℕ) (names : Names) (items : List (Item Operand)) → AreBelow n names → (k : ℕ) → k < length (filter_map (line_named names) items) → get_or (filter_map (line_named names) items) k d < n
used_below n d names [] below k lt = absurd (omega (arith, lt))
used_below n d names (x ∷ xs) below k lt =
    with_one n d (line_named names x) (filter_map (line_named names) xs) (λ at is. line_below n names x at below is) (λ j room. used_below n d names xs below j room) k lt

all_below : (n d : ℕ) (names : Names) (lines : List Taken) → AreBelow n names → (j k : ℕ) → j < length (uses_in names lines) → k < length (get_or (uses_in names lines) j []) → get_or (get_or (uses_in names lines) j []) k d < n
all_below n d names [] below j k room lt = absurd (omega (arith, room))
all_below n d names (l ∷ ls) below zero k room lt = used_below n d names (equ_items l.line) below k lt
all_below n d names (l ∷ ls) below (suc j) k room lt = all_below n d names ls below j k (omega arith) lt

items_at_map : (uses : List (Vec ℕ Global)) (j : ℕ) (d : Vec ℕ Global) → j < length uses → (get_or uses j d).items ≡ get_or (map (λ some. some.items) uses) j []
items_at_map [] j d lt = absurd (omega (arith, lt))
items_at_map (u ∷ us) zero d lt = refl
items_at_map (u ∷ us) (suc j) d lt = items_at_map us j d (omega arith)

pub are_defined : (uses : List (Vec ℕ Global)) (names : Names) (lines : List Taken) → map (λ some. some.items) uses ≡ uses_in names lines → AreBelow (length lines) names → NameOnlyDefinitions uses
are_defined uses names lines is below j d room k e lt =
    let at : (get_or uses j d).items ≡ get_or (uses_in names lines) j [] = items_at_map uses j d room ∙ ap (λ all. get_or all j []) is in
    let len = same_length uses names lines is in
    rw len (rw at (all_below (length lines) e names lines below j k (omega (arith, len, length-map lines (used names))) (rw at at lt)))

pub ordered : (uses : List (Vec ℕ Global)) (names : Names) (lines : List Taken) (turns : List Turn) → map (λ some. some.items) uses ≡ uses_in names lines
    → IsOrder (length uses) (named_by uses) turns → IsOrder (length lines) (lines_named names lines) turns
ordered uses names lines turns is order = rw (same_length uses names lines is) at (rw (same_uses uses names lines is) at order)
