-- The figures of one statement more.
use Rattle.std.proofs.Common.{◌≡◌, ◌∙◌, ◌+◌, ◌-◌, ◌≤◌, ◌<◌, ℕ, Bool, true, false, cond, List, [], ◌∷◌, ◌++◌, Option, length, map, refl, ap, sym, arith, filter, slice_index}
use Rattle.std.specs.Prelude.{◌==◌, ◌&&◌, count_by}
use Rattle.std.specs.List.{enumerate_from, sum_by}
use Rattle.std.proofs.lemmas.List.{map-append, take_more}
use Rattle.std.proofs.lemmas.List.Sums.{sum_by_push, sum_by-append}
use Rattle.zmo_object.specs.Modules.{ModuleStatement}
use Rattle.program_map.specs.declared.maps.figures.Figures.{Figures}
use Rattle.program_map.specs.declared.maps.kind.Kind.{Kind}
use Rattle.program_map.specs.Figures.{CountedStatement, all_counted, bytes_that, counted_statement, figures, is_code_kind, is_data_kind, is_space_kind, jumps_with, relaxables}
use Rattle.program_map.specs.Private.Adding.{added}

filter_push : {X : Type 0} (p : X → Bool) (xs : List X) (x : X) → filter p (xs ++ x ∷ []) ≡ filter p xs ++ cond (p x) (x ∷ []) []
filter_push p [] x = refl
filter_push p (y ∷ xs) x = go (p y) (filter_push p xs x)
  where
    go : (b : Bool) → filter p (xs ++ x ∷ []) ≡ filter p xs ++ cond (p x) (x ∷ []) []
        → cond b (y ∷ filter p (xs ++ x ∷ [])) (filter p (xs ++ x ∷ [])) ≡ cond b (y ∷ filter p xs) (filter p xs) ++ cond (p x) (x ∷ []) []
    go true more = ap (λ ys. y ∷ ys) more
    go false more = more

bytes_push : (are : Kind → Bool) (xs : List CountedStatement) (x : CountedStatement) → bytes_that are (xs ++ x ∷ []) ≡ bytes_that are xs + cond (are x.kind) x.bytes 0
bytes_push are xs x = rw (filter_push (λ s. are s.kind) xs x) (go (are x.kind))
  where
    go : (b : Bool) → sum_by (λ s. s.bytes) (filter (λ s. are s.kind) xs ++ cond b (x ∷ []) []) ≡ bytes_that are xs + cond b x.bytes 0
    go true = sum_by_push (λ s. s.bytes) (filter (λ s. are s.kind) xs) x
    go false = sum_by-append (λ s. s.bytes) (filter (λ s. are s.kind) xs) []

jumps_push : (bytes : ℕ) (xs : List CountedStatement) (x : CountedStatement) → jumps_with bytes (xs ++ x ∷ []) ≡ jumps_with bytes xs + cond (x.relaxable && (x.bytes == bytes)) 1 0
jumps_push bytes xs x = sum_by_push (λ s. cond (s.relaxable && (s.bytes == bytes)) 1 0) xs x

relaxables_push : (xs : List CountedStatement) (x : CountedStatement) → relaxables (xs ++ x ∷ []) ≡ relaxables xs + cond x.relaxable 1 0
relaxables_push xs x = sum_by_push (λ s. cond s.relaxable 1 0) xs x

pub figures_push : (xs : List CountedStatement) (x : CountedStatement) → figures (xs ++ x ∷ []) ≡ added (figures xs) x
figures_push xs x = rw (bytes_push is_code_kind xs x, bytes_push is_data_kind xs x, bytes_push is_space_kind xs x, relaxables_push xs x, jumps_push 2 xs x, jumps_push 3 xs x) refl

enumerate_push : {X : Type 0} (n : ℕ) (xs : List X) (x : X) → enumerate_from n (xs ++ x ∷ []) ≡ enumerate_from n xs ++ (n + length xs, x) ∷ []
enumerate_push n [] x = ap (λ k. (k, x) ∷ []) (omega arith)
enumerate_push n (y ∷ xs) x = ap (λ ps. (n, y) ∷ ps) (enumerate_push (n + 1) xs x ∙ ap (λ k. enumerate_from (n + 1) xs ++ (k, x) ∷ []) (omega arith))

pub counted_push : (kinds : Option (List Kind)) (places : List ℕ) (xs : List ModuleStatement) (x : ModuleStatement)
    → all_counted kinds places (xs ++ x ∷ []) ≡ all_counted kinds places xs ++ counted_statement kinds places (length xs, x) ∷ []
counted_push kinds places xs x = rw (enumerate_push 0 xs x) (map-append (counted_statement kinds places) (enumerate_from 0 xs) ((0 + length xs, x) ∷ []) ∙ ap (λ k. all_counted kinds places xs ++ counted_statement kinds places (k, x) ∷ []) (omega arith))

-- a statement adds its bytes to one of the three sums
pub added_bytes : (f : Figures) (s : CountedStatement) → (added f s).code + (added f s).«data» + (added f s).space ≡ f.code + f.«data» + f.space + s.bytes
added_bytes f s = go s.kind
  where
    go : (k : Kind) → (f.code + cond (is_code_kind k) s.bytes 0) + (f.«data» + cond (is_data_kind k) s.bytes 0) + (f.space + cond (is_space_kind k) s.bytes 0) ≡ f.code + f.«data» + f.space + s.bytes
    go Kind.Code = omega arith
    go Kind.Data = omega arith
    go Kind.Space = omega arith

-- the figures with the statement at i are those of the statements up to it
pub figures_more : (kinds : Option (List Kind)) (places : List ℕ) (xs : List ModuleStatement) (i : ℕ) (x : ModuleStatement) → length xs ≡ i
    → figures (all_counted kinds places (xs ++ x ∷ [])) ≡ added (figures (all_counted kinds places xs)) (counted_statement kinds places (i, x))
figures_more kinds places xs i x e =
    ap figures (counted_push kinds places xs x) ∙ figures_push (all_counted kinds places xs) (counted_statement kinds places (length xs, x)) ∙ ap (λ k. added (figures (all_counted kinds places xs)) (counted_statement kinds places (k, x))) e

once : (b : Bool) → cond b 1 0 ≤ 1
once true = omega arith
once false = omega arith

-- a statement adds one jump at most
pub added_jumps : (f : Figures) (s : CountedStatement) (n : ℕ) → (f.jumps ≤ n) × (f.short ≤ n) × (f.long ≤ n)
    → ((added f s).jumps ≤ n + 1) × ((added f s).short ≤ n + 1) × ((added f s).long ≤ n + 1)
added_jumps f s n h = (omega (arith, once s.relaxable, h.0), omega (arith, once (s.relaxable && (s.bytes == 2)), h.1), omega (arith, once (s.relaxable && (s.bytes == 3)), h.2))
