-- A file that reads as the statements of modules also reads as the program of their sources.
use Rattle.std.proofs.Common.{◌≡◌, ◌<◌, ◌≤◌, ◌+◌, ◌-◌, ◌%◌, ℕ, suc, Bool, true, false, List, [], ◌∷◌, ◌++◌, Option, Some, None, All, if◌then◌else◌, length, map, nat_le, refl, sym, ap, subst, ◌∙◌, arith}
use Rattle.std.specs.List.{AllZip, flat_map, slice_get, slice_index_or, zip}
use Rattle.std.specs.Option.{IsSomeAnd, MatchOption, option_map}
use Rattle.std.proofs.lemmas.Bool.{leb-false}
use Rattle.std.proofs.lemmas.List.Concat.{flat_map-cons}
use Rattle.std.proofs.lemmas.List.Elements.{All-drop, All-head, All-tail, All-take}
use Rattle.std.proofs.lemmas.Option.{slice_get-map, slice_get_within}
use Rattle.std.proofs.lemmas.Slice.Zip.{AllZip-right}
use Rattle.asm_expr.specs.Below.{modulus}
use Rattle.asm_expr.specs.Distances.{Step}
use Rattle.asm_expr.specs.Types.{Statement as Size}
use Rattle.relax.specs.Choice as choice
use Rattle.relax.specs.Choice.{Choice, bytes_before, place}
use Rattle.relax.proofs.Places.{place-next}
use Rattle.asm_module.specs.Below.{IsLinkedAs, size_in_module, sizes}
use Rattle.asm_module.specs.Program.Linked.{IsSizedLike}
use Rattle.asm_module.specs.Program.Pieces.{IsPiece}
use Rattle.asm_module.specs.Program.Statement.{Statement}
use Rattle.zmo_object.specs.Modules as object
use Rattle.zlink.specs.Program.Parts.{ModulePart, Publics, parts, parts_from, all_publics}
use Rattle.zlink.specs.Program.Whole.{Placed, placed_statements, program, public_statement, stands}
use Rattle.zlink.specs.File.Objects as file
use Rattle.zlink.specs.File.Objects.{IsPlaced, ReadsObjects, sized_by}
use Rattle.zlink.specs.File.Reads.{ReadsBy}
use Rattle.zlink.specs.Renumbered.{statement_in}
use Rattle.zlink.specs.Reads.{Reads, shape, sized_as}
use Rattle.zlink.specs.Sources.{Assembly, in_whole, modules_of, program_of}
use Rattle.zlink.specs.Private.Assembling.{IsKept}
use Rattle.zlink.proofs.Renumbered.{like_sized, piece-renumbered}

-- The statements of a module are in the whole program, from its base on. This is what the law `laid_out` says.
abbrev pub StandsThere : List Placed → Publics → ModulePart → Type 0
StandsThere whole names p = (i : ℕ) (s : object.ModuleStatement) → slice_get p.holds.statements i ≡ Some s → slice_get whole (p.base + i) ≡ Some (record { statement = s; stands = stands names p })

pub zipped-append : {A B : Type 0} (K : A → B → Type 0) (xs vs : List A) (ys ws : List B) → AllZip K xs ys → AllZip K vs ws → AllZip K (xs ++ vs) (ys ++ ws)
zipped-append K [] vs [] ws first rest = rest
zipped-append K [] vs (y ∷ ys) ws first rest = absurd first
zipped-append K (x ∷ xs) vs [] ws first rest = absurd first
zipped-append K (x ∷ xs) vs (y ∷ ys) ws first rest = (first.0, zipped-append K xs vs ys ws first.1 rest)

-- If K holds of each pair of two lists, and K gives L after f and g, then L holds of each pair of the two mapped lists.
zipped-map : {A B C D : Type 0} (K : A → B → Type 0) (L : C → D → Type 0) (f : A → C) (g : B → D) → ((x : A) (y : B) → K x y → L (f x) (g y)) → (xs : List A) (ys : List B) → AllZip K xs ys → AllZip L (map f xs) (map g ys)
zipped-map K L f g each [] [] all = tt
zipped-map K L f g each [] (y ∷ ys) all = absurd all
zipped-map K L f g each (x ∷ xs) [] all = absurd all
zipped-map K L f g each (x ∷ xs) (y ∷ ys) all = (each x y all.0, zipped-map K L f g each xs ys all.1)

-- A relation that holds between the statements of each module and those of its source also holds between the two whole programs.
module _ (K : Placed → Statement → Type 0) (names : Publics) (whole : List Placed)
    (one : (p : ModulePart) (a : Assembly) → p.holds ≡ a.assembled.holds → StandsThere whole names p → IsKept a → AllZip K (placed_statements names p) (in_whole names (p, a))) where
  all_from : (number base : ℕ) (sources : List Assembly) → ((j : ℕ) (p : ModulePart) → slice_get (parts_from number base (modules_of sources)) j ≡ Some p → StandsThere whole names p) → All IsKept sources
      → AllZip K (flat_map (placed_statements names) (parts_from number base (modules_of sources))) (flat_map (in_whole names) (zip (parts_from number base (modules_of sources)) sources))
  all_from number base [] there kept = tt
  all_from number base (a ∷ sources) there kept =
      let p : ModulePart = record { number = number; base = base; holds = a.assembled.holds } in
      let rest : List ModulePart = parts_from (number + 1) (base + length a.assembled.holds.statements) (modules_of sources) in
      let both = zipped-append K (placed_statements names p) (flat_map (placed_statements names) rest) (in_whole names (p, a)) (flat_map (in_whole names) (zip rest sources))
      (one p a refl (there 0 p refl) (All-head IsKept a sources kept))
      (all_from (number + 1) (base + length a.assembled.holds.statements) sources (λ j. there (suc j)) (All-tail IsKept a sources kept)) in
      subst (λ xs. AllZip K xs (flat_map (in_whole names) (zip (p ∷ rest) (a ∷ sources)))) (sym (flat_map-cons (placed_statements names) p rest))
      (subst (AllZip K (placed_statements names p ++ flat_map (placed_statements names) rest)) (sym (flat_map-cons (in_whole names) (p, a) (zip rest sources))) both)

abbrev names_of : List Assembly → Publics
names_of sources = all_publics (parts (modules_of sources))

-- what the laws say about the modules of these sources
pub record Laid (sources : List Assembly) : Type 0 where
  pub there : (j : ℕ) (p : ModulePart) → slice_get (parts (modules_of sources)) j ≡ Some p → StandsThere (program (modules_of sources)) (names_of sources) p
  pub kept : All IsKept sources

-- Sizes and targets are the same for a module and its source.
alike : (whole : List Placed) (names : Publics) (p : ModulePart) (a : Assembly) → p.holds ≡ a.assembled.holds → StandsThere whole names p → IsKept a
    → AllZip (λ x s. sized_by x.stands x.statement ≡ sized_as s) (placed_statements names p) (in_whole names (p, a))
alike whole names p a same there kept =
    zipped-map IsSizedLike (λ x s. sized_by x.stands x.statement ≡ sized_as s) (λ s. record { statement = s; stands = stands names p }) (statement_in (stands names p)) (like_sized (stands names p)) p.holds.statements a.program
    (subst (λ m. AllZip IsSizedLike m.statements a.program) (sym same) kept.placed.like)

same_sizes : (xs : List Placed) (ss : List Statement) → AllZip (λ x s. sized_by x.stands x.statement ≡ sized_as s) xs ss → file.placed_shape xs ≡ shape ss
same_sizes [] [] all = refl
same_sizes [] (s ∷ ss) all = absurd all
same_sizes (x ∷ xs) [] all = absurd all
same_sizes (x ∷ xs) (s ∷ ss) all = ap (λ y. y ∷ file.placed_shape xs) all.0 ∙ ap (λ ys. sized_as s ∷ ys) (same_sizes xs ss all.1)

-- The program of the modules has the same shape as the program of the sources: statement by statement, the same sizes and targets.
pub same_shape : (sources : List Assembly) → Laid sources → file.placed_shape (program (modules_of sources)) ≡ shape (program_of sources)
same_shape sources laid =
    same_sizes (program (modules_of sources)) (program_of sources)
    (all_from (λ x s. sized_by x.stands x.statement ≡ sized_as s) (names_of sources) (program (modules_of sources)) (alike (program (modules_of sources)) (names_of sources)) 0 0 sources laid.there laid.kept)

-- If the sizes of a module's statements are known, the addresses of any choice agree with them.
own_ref : (names : Publics) (p : ModulePart) (k : ℕ) → k ≤ length p.holds.statements → stands names p k ≡ p.base + k
own_ref names p k le = by_test (nat_le k (length p.holds.statements)) refl
  where
    by_test : (b : Bool) → nat_le k (length p.holds.statements) ≡ b → (if b then p.base + k else public_statement names (slice_index_or p.holds.externals (k - (length p.holds.statements + 1)) [])) ≡ p.base + k
    by_test true e = refl
    by_test false e = absurd (omega (arith, leb-false k (length p.holds.statements) e))

known_size : (to : ℕ → ℕ) (long : Bool) (o : object.ModuleStatement) (n : ℕ) → size_in_module o ≡ Size.Sized n → choice.size_of long (sized_by to o) ≡ n
known_size to long (object.Bytes bytes holes) n is = cc
known_size to long (object.Jump marked condition target) n is = absurd cc
known_size to long (object.Short branch target) n is = cc
known_size to long (object.Space size fill) n is = cc

sized_back : (xs : List object.ModuleStatement) (k : ℕ) (n : Size) → slice_get (sizes xs) k ≡ Some n → (o : object.ModuleStatement) × (slice_get xs k ≡ Some o) × (size_in_module o ≡ n)
sized_back xs k n is = by (slice_get xs k) refl (sym (slice_get-map size_in_module xs k) ∙ is)
  where
    by : (found : Option object.ModuleStatement) → slice_get xs k ≡ found → option_map size_in_module found ≡ Some n → (o : object.ModuleStatement) × (slice_get xs k ≡ Some o) × (size_in_module o ≡ n)
    by None there is = absurd (cc is)
    by (Some o) there is = (o, there, cc)

-- the element at the same position of the other list
other_side : {A B : Type 0} (K : A → B → Type 0) (mine : Option A) (other : Option B) → MatchOption other (Unit {0}) (λ y. IsSomeAnd mine (λ x. K x y)) → (y : B) → other ≡ Some y
    → (x : A) × (mine ≡ Some x) × K x y
other_side K mine None both y there = absurd (cc there)
other_side K None (Some z) both y there = absurd both
other_side K (Some x) (Some z) both y there = (let same : z ≡ y = cc in (x, refl, subst (K x) same both))

module _ (whole : List Placed) (names : Publics) (c : Choice) where
  -- the addresses of the statements of the whole program
  abbrev at_whole : ℕ → ℕ
  at_whole k = place c (file.placed_shape whole) k

  steps : (p : ModulePart) → StandsThere whole names p → Step (sizes p.holds.statements) (λ ref. at_whole (stands names p ref))
  steps p there k n is =
      let o = sized_back p.holds.statements k (Size.Sized n) is in
      let within = slice_get_within p.holds.statements k o.0 o.1 in
      let next = place-next c (file.placed_shape whole) (p.base + k) (sized_by (stands names p) o.0) (slice_get-map (λ x. sized_by x.stands x.statement) whole (p.base + k) ∙ ap (option_map (λ x. sized_by x.stands x.statement)) (there k o.0 o.1)) in
      let far : at_whole (stands names p (suc k)) ≡ at_whole (p.base + k + 1) = ap at_whole (own_ref names p (suc k) (omega (arith, within)) ∙ omega arith) in
      let near : at_whole (stands names p k) ≡ at_whole (p.base + k) = ap at_whole (own_ref names p k (omega (arith, within))) in
      ap (λ m. m % modulus) (omega (arith, far, near, next, known_size (stands names p) (c (p.base + k)) o.0 n o.2))

  -- Bytes that are those of the module's statement are also those of the source's statement.
  abbrev IsMade : Placed → Statement → Type 0
  IsMade x s = (at : ℕ) (long : Bool) (bytes : List ℕ) → All (λ b. b < 256) bytes → IsPlaced at long at_whole x bytes → IsPiece at long at_whole s bytes

  made : (p : ModulePart) (a : Assembly) → p.holds ≡ a.assembled.holds → StandsThere whole names p → IsKept a → AllZip IsMade (placed_statements names p) (in_whole names (p, a))
  made p a same there kept =
      let to : ℕ → ℕ = stands names p in
      zipped-map (IsLinkedAs (λ ref. at_whole (to ref))) IsMade (λ s. record { statement = s; stands = to }) (statement_in to)
      (λ o s holds at long bytes small linked. piece-renumbered at_whole to at long s bytes (holds at long bytes small linked).0) p.holds.statements a.program
      (subst (λ m. AllZip (IsLinkedAs (λ ref. at_whole (to ref))) m.statements a.program) (sym same)
      (kept.placed.pieces (λ ref. at_whole (to ref)) (subst (λ m. Step (sizes m.statements) (λ ref. at_whole (to ref))) same (steps p there))))

-- A file that reads as the statements of the modules reads as the program of the sources.
pub carried : (sources : List Assembly) (file : List ℕ) (c : Choice) → Laid sources → All (λ b. b < 256) file → ReadsObjects file (program (modules_of sources)) c → Reads file (program_of sources) c
carried sources file c laid small reads =
    let same = same_shape sources laid in
    let pieces = all_from (IsMade (program (modules_of sources)) (names_of sources) c) (names_of sources) (program (modules_of sources)) (made (program (modules_of sources)) (names_of sources) c) 0 0 sources laid.there laid.kept in
    subst (λ s. ReadsBy IsPiece file s (program_of sources) c) same
    (record {
      length_is = reads.length_is;
      pieces = λ k s there.
          let of_object = other_side (IsMade (program (modules_of sources)) (names_of sources) c) (slice_get (program (modules_of sources)) k) (slice_get (program_of sources) k)
          (AllZip-right (IsMade (program (modules_of sources)) (names_of sources) c) (program (modules_of sources)) (program_of sources) pieces k) s there in
          of_object.2 _ _ _ (All-take (λ b. b < 256) _ _ (All-drop (λ b. b < 256) _ file small)) (reads.pieces k of_object.0 of_object.1);
    })
