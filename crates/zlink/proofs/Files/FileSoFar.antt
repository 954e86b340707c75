-- A file that is written statement by statement reads as its program.
use Rattle.std.proofs.Common.{◌≡◌, inl, inr, ℕ, suc, ◌+◌, ◌-◌, ◌<◌, ◌≤◌, Bool, false, List, [], ◌∷◌, ◌++◌, Option, Some, All, length, take, drop, slice_index, refl, sym, ap, subst, ◌∙◌, arith, length-append, length-drop, append_assoc}
use Rattle.std.specs.List.{slice_get, slice_range}
use Rattle.std.specs.Option.{option_map}
use Rattle.std.proofs.lemmas.Bool.{cases_lt}
use Rattle.std.proofs.lemmas.List.{take-append-le, drop-append-le, append-nil, drop_at, take_all, length-map}
use Rattle.std.proofs.lemmas.List.Elements.{All-from_get_or, All-weaker}
use Rattle.std.proofs.lemmas.Option.{slice_get-map, slice_get_within}
use Rattle.relax.specs.Choice.{Choice, IsNear, IsValid, bytes_before, place, size_of}
use Rattle.relax.proofs.Places.{bytes-zero, bytes-next, bytes-le, size-there}
use Rattle.zmo_object.specs.Holes.{IsHole}
use Rattle.zmo_object.specs.Modules as object
use Rattle.zmo_object.specs.Modules.{ModuleStatement}
use Rattle.zmo_object.specs.Rules.{IsModuleStatement}
use Rattle.zlink.specs.Program.Whole.{Placed}
use Rattle.zlink.specs.File.Objects.{IsPlaced, ReadsObjects, placed_shape, sized_by}
use Rattle.zlink.specs.File.Places.{ArePlaces}
use Rattle.zlink.specs.Private.Pieces.{AreLaid, IsReady, IsSizedPiece}
use Rattle.zlink.proofs.Files.Moved.{moved}

-- The statement keeps the rules for some number of refs, and the table has the address of what each ref stands for.
pub record IsTabled (count : ℕ) (places table : List ℕ) (q : Placed) : Type 0 where
  pub grow : Bool
  pub refs : ℕ
  pub rules : IsModuleStatement grow refs q.statement
  pub fits : refs ≤ length table
  pub stands : (ref : ℕ) → ref < refs → q.stands ref ≤ count
  pub each : (ref : ℕ) → ref < refs → slice_index table ref ≡ slice_index places (q.stands ref)

-- statement k of a program is statement k of its shape
pub shape-at : (p : List Placed) (k : ℕ) (q : Placed) → slice_get p k ≡ Some q → slice_get (placed_shape p) k ≡ Some (sized_by q.stands q.statement)
shape-at p k q e = slice_get-map (λ x. sized_by x.stands x.statement) p k ∙ ap (option_map (λ x. sized_by x.stands x.statement)) e

pub same-length : (p : List Placed) → length (placed_shape p) ≡ length p
same-length p = length-map p (λ x. sized_by x.stands x.statement)

-- each address of a program is below 65,536 if the choice is valid
pub place-small : (c : Choice) (p : List Placed) (t : ℕ) → IsValid c (placed_shape p) → t ≤ length p → place c (placed_shape p) t < 65536
place-small c p t valid le = omega (arith, valid.fits, bytes-le c (placed_shape p) t (length (placed_shape p)) (omega (arith, same-length p)))

pub places-small : (c : Choice) (p : List Placed) (places : List ℕ) → IsValid c (placed_shape p) → ArePlaces c (placed_shape p) places → All (λ x. x < 65536) places
places-small c p places valid places_are = All-from_get_or (λ x. x < 65536) places 0
    (λ k lt. omega (arith, places_are.each k (omega (arith, places_are.len)), place-small c p k valid (omega (arith, places_are.len, same-length p))))

-- the table has the address of each ref
tabled-place : (c : Choice) (p : List Placed) (places table : List ℕ) (q : Placed) (ref : ℕ) → ArePlaces c (placed_shape p) places → (t : IsTabled (length p) places table q) → ref < t.refs
    → slice_index table ref ≡ place c (placed_shape p) (q.stands ref)
tabled-place c p places table q ref places_are t lt = t.each ref lt ∙ places_are.each (q.stands ref) (omega (arith, same-length p, t.stands ref lt))

-- each statement of the program can be written at its address
pub ready : (c : Choice) (p : List Placed) (places table : List ℕ) (k : ℕ) (q : Placed) → IsValid c (placed_shape p) → ArePlaces c (placed_shape p) places → slice_get p k ≡ Some q → IsTabled (length p) places table q
    → IsReady (slice_index places k) (c k) table q.statement
ready c p places table k q valid places_are e t = by q.statement refl t.rules
  where
    at : slice_index places k ≡ place c (placed_shape p) k
    at = places_are.each k (omega (arith, same-length p, slice_get_within p k q e))

    small : slice_index places k < 65536
    small = omega (arith, at, place-small c p k valid (omega (arith, slice_get_within p k q e)))

    sized : (s : ModuleStatement) → q.statement ≡ s → slice_get (placed_shape p) k ≡ Some (sized_by q.stands s)
    sized s is = shape-at p k q e ∙ ap (λ x. Some (sized_by q.stands x)) is

    by : (s : ModuleStatement) → q.statement ≡ s → IsModuleStatement t.grow t.refs s → IsReady (slice_index places k) (c k) table s
    by (object.Bytes bytes holes) is rules =
        (rules.1, All-weaker (IsHole t.refs bytes) (IsHole (length table) bytes) (λ h r. record { expr = r.expr; width = r.width; refs = All-weaker (λ x. x < t.refs) (λ x. x < length table) (λ x lt. omega (arith, t.fits, lt)) _ r.refs; blank = r.blank }) holes rules.2)
    by (object.Jump marked condition target) is rules =
        let to = tabled-place c p places table q target places_are t rules.1 in
        let reach : c k ≡ false → IsNear (place c (placed_shape p) k) (place c (placed_shape p) (q.stands target)) = λ short. valid.settled k (q.stands target) (sized (object.Jump marked condition target) is) short in
        (omega (arith, small), omega (arith, t.fits, rules.1), λ short. rw (at, to) (reach short))
    by (object.Short branch target) is rules =
        let to = tabled-place c p places table q target places_are t rules.1 in
        (omega (arith, small), omega (arith, t.fits, rules.1), rw (at, to) (valid.shorts k (q.stands target) (sized (object.Short branch target) is)))
    by (object.Space size fill) is rules = tt

-- the bytes of the first k statements are written
pub record Written (c : Choice) (p : List Placed) (k : ℕ) (file : List ℕ) : Type 0 where
  pub len : length file ≡ bytes_before c (placed_shape p) k
  pub pieces : (j : ℕ) (q : Placed) → j < k → slice_get p j ≡ Some q →
      IsPlaced (place c (placed_shape p) j) (c j) (place c (placed_shape p)) q (slice_range file (bytes_before c (placed_shape p) j) (bytes_before c (placed_shape p) (j + 1)))

pub start : (c : Choice) (p : List Placed) (file : List ℕ) → file ≡ [] → Written c p 0 file
start c p file e = record { len = ap length e ∙ sym (bytes-zero c (placed_shape p)); pieces = λ j q lt at. absurd (omega arith) }

-- a range of the front of a list is the same range of the whole list
range-front : (xs ys : List ℕ) (a b : ℕ) → a ≤ b → b ≤ length xs → slice_range (xs ++ ys) a b ≡ slice_range xs a b
range-front xs ys a b ab within =
    ap (take (b - a)) (drop-append-le a xs ys (omega arith)) ∙ take-append-le (b - a) (drop a xs) ys (omega (arith, length-drop a xs))

-- the range from the old end on is what was appended
range-end : (xs ys : List ℕ) (a b : ℕ) → a ≡ length xs → b ≡ length xs + length ys → slice_range (xs ++ ys) a b ≡ ys
range-end xs ys a b e f =
    let n : b - a ≡ length ys = omega arith in
    ap (λ m. take m (drop a (xs ++ ys))) n ∙ ap (take (length ys)) (drop_at xs ys a (sym e)) ∙ take_all (length ys) ys (omega arith)

-- the size of a statement does not depend on what its refs stand for
size-same : (long : Bool) (f g : ℕ → ℕ) (s : ModuleStatement) → size_of long (sized_by f s) ≡ size_of long (sized_by g s)
size-same long f g (object.Bytes bytes holes) = refl
size-same long f g (object.Jump marked condition target) = refl
size-same long f g (object.Short branch target) = refl
size-same long f g (object.Space size fill) = refl

-- one more statement is written
pub step : (c : Choice) (p : List Placed) (places table : List ℕ) (k : ℕ) (q : Placed) (file next bytes : List ℕ) → ArePlaces c (placed_shape p) places → IsTabled (length p) places table q → Written c p k file → slice_get p k ≡ Some q
    → next ≡ file ++ bytes → IsSizedPiece (slice_index places k) (c k) table q.statement bytes → Written c p (k + 1) next
step c p places table k q file next bytes places_are t written at e piece =
    let same = same-length p in
    let size = bytes-next c (placed_shape p) k in
    let there = size-there c (placed_shape p) k (sized_by q.stands q.statement) (shape-at p k q at) in
    let long : length bytes ≡ size_of (c k) (sized_by q.stands q.statement) = piece.1 ∙ size-same (c k) (λ ref. ref) q.stands q.statement in
    record {
      len = omega (arith, ap length e, length-append file bytes, written.len, size, there, long);
      pieces = λ j x lt from.
          elim (cases_lt j k) [
            | inl before ↦
                let range = ap (λ f. slice_range f (bytes_before c (placed_shape p) j) (bytes_before c (placed_shape p) (j + 1))) e
                ∙ range-front file bytes (bytes_before c (placed_shape p) j) (bytes_before c (placed_shape p) (j + 1)) (bytes-le c (placed_shape p) j (j + 1) (omega arith)) (omega (arith, written.len, bytes-le c (placed_shape p) (j + 1) k (omega arith))) in
                rw range (written.pieces j x before from)
            | inr after ↦
                let here : j ≡ k = omega arith in
                let one : ◌≡◌ {A = Option Placed} (Some q) (Some x) = sym at ∙ ap (slice_get p) (sym here) ∙ from in
                let same_statement : q ≡ x = cc in
                let range : slice_range next (bytes_before c (placed_shape p) k) (bytes_before c (placed_shape p) (k + 1)) ≡ bytes = ap (λ f. slice_range f (bytes_before c (placed_shape p) k) (bytes_before c (placed_shape p) (k + 1))) e
                ∙ range-end file bytes (bytes_before c (placed_shape p) k) (bytes_before c (placed_shape p) (k + 1)) (sym written.len) (omega (arith, written.len, size, there, long)) in
                let base : IsPlaced (place c (placed_shape p) k) (c k) (place c (placed_shape p)) q bytes =
                moved (λ ref. slice_index table ref) (λ ref. place c (placed_shape p) (q.stands ref)) t.refs (λ ref lt. tabled-place c p places table q ref places_are t lt)
                (slice_index places k) (place c (placed_shape p) k) (c k) t.grow q.statement bytes (places_are.each k (omega (arith, same, slice_get_within p k q at))) t.rules piece.0 in
                subst (λ i. IsPlaced (place c (placed_shape p) i) (c i) (place c (placed_shape p)) x (slice_range next (bytes_before c (placed_shape p) i) (bytes_before c (placed_shape p) (i + 1)))) (sym here)
                (rw range (subst (λ y. IsPlaced (place c (placed_shape p) k) (c k) (place c (placed_shape p)) y bytes) same_statement base))
          ];
    }

-- the statements ss are in the program from number k on, and one table has the addresses of all their refs
pub record Follow (p : List Placed) (places table : List ℕ) (stands : ℕ → ℕ) (k : ℕ) (ss : List ModuleStatement) : Type 0 where
  pub there : (i : ℕ) (s : ModuleStatement) → slice_get ss i ≡ Some s → slice_get p (k + i) ≡ Some (record { statement = s; stands = stands })
  pub tabled : (i : ℕ) (s : ModuleStatement) → slice_get ss i ≡ Some s → IsTabled (length p) places table (record { statement = s; stands = stands })

-- all of these statements are written
pub many : (c : Choice) (p : List Placed) (places table : List ℕ) (stands : ℕ → ℕ) (ss : List ModuleStatement) (k : ℕ) (file next bytes : List ℕ) → ArePlaces c (placed_shape p) places → Follow p places table stands k ss → Written c p k file
    → AreLaid (λ j. IsSizedPiece (slice_index places j) (c j) table) k ss bytes → next ≡ file ++ bytes → Written c p (k + length ss) next
many c p places table stands [] k file next bytes places_are follow written laid e =
    let same : k ≡ k + 0 = omega arith in
    let kept : file ≡ next = sym (append-nil file) ∙ ap (λ bs. file ++ bs) (sym laid) ∙ sym e in
    subst (λ n. Written c p n next) same (subst (Written c p k) kept written)
many c p places table stands (s ∷ ss) k file next bytes places_are follow written laid e =
    let here : k + 0 ≡ k = omega arith in
    let far : (k + 1) + length ss ≡ k + suc (length ss) = omega arith in
    let q : Placed = record { statement = s; stands = stands } in
    let at : slice_get p k ≡ Some q = ap (slice_get p) (sym here) ∙ follow.there 0 s refl in
    let once = step c p places table k q file (file ++ laid.0) laid.0 places_are (follow.tabled 0 s refl) written at refl laid.3 in
    let rest : Follow p places table stands (k + 1) ss = record {
      there = λ i x is. (let same : (k + 1) + i ≡ k + suc i = omega arith in ap (slice_get p) same ∙ follow.there (suc i) x is);
      tabled = λ i x is. follow.tabled (suc i) x is;
    } in
    let split : next ≡ (file ++ laid.0) ++ laid.1 = e ∙ ap (λ bs. file ++ bs) laid.2 ∙ sym (append_assoc file laid.0 laid.1) in
    subst (λ n. Written c p n next) far (many c p places table stands ss (k + 1) (file ++ laid.0) next laid.1 places_are rest once laid.4 split)

pub finished : (c : Choice) (p : List Placed) (k : ℕ) (file : List ℕ) → length p ≡ k → Written c p k file → ReadsObjects file p c
finished c p k file all written = record {
  length_is = written.len ∙ ap (bytes_before c (placed_shape p)) (sym all ∙ sym (same-length p));
  pieces = λ j q at. written.pieces j q (omega (arith, all, slice_get_within p j q at)) at;
}
