-- The first path that is written and read, looked for one kind after the other.
use Rattle.std.proofs.Common.{◌≡◌, ◌∙◌, ◌<◌, ◌+◌, ◌++◌, ◌||◌, ap, ap₂, sym, subst, true, false, ℕ, Bool, Bor, cond, List, [], ◌∷◌, drop, get_or, length, map, Some, refl}
use Rattle.std.proofs.lemmas.Bool.{cond-true, cond-false}
use Rattle.std.proofs.lemmas.List.{at_drop_more}
use Rattle.std.proofs.lemmas.List.Folds.{list_any-append}
use Rattle.std.specs.List.{list_any}
use Rattle.host.specs.SamePath.{is_same_path}
use Rattle.host.specs.Finishing.{path_of}
use Rattle.host.specs.declared.answer.Kind.{Kind}
use Rattle.z80dev.specs.Outputs.{overwritten}

pub next : (base : List ℕ) (kinds : List Kind) (read : List (List ℕ)) (k : ℕ) (d : Kind) → k < length kinds
    → overwritten base (drop k kinds) read ≡ cond (list_any (is_same_path (path_of base (get_or kinds k d))) read) (Some (path_of base (get_or kinds k d))) (overwritten base (drop (k + 1) kinds) read)
next base kinds read k d lt = at_drop_more (λ ks. overwritten base ks read) kinds k d lt

any_now : (p : List ℕ → Bool) (paths : List (Bor (List ℕ))) → list_any (λ path. p path.now) paths ≡ list_any p (map (λ path. path.now) paths)
any_now p [] = refl
any_now p (path ∷ more) = ap (λ b. p path.now || b) (any_now p more)

pub among : (path : List ℕ) (shared sources : List (Bor (List ℕ)))
    → (list_any (λ other. is_same_path path other.now) shared || list_any (λ other. is_same_path path other.now) sources) ≡ list_any (is_same_path path) (map (λ other. other.now) shared ++ map (λ other. other.now) sources)
among path shared sources = ap₂ (λ a b. a || b) (any_now (is_same_path path) shared) (any_now (is_same_path path) sources) ∙ sym (list_any-append (is_same_path path) (map (λ other. other.now) shared) (map (λ other. other.now) sources))

pub found : (base : List ℕ) (kinds : List Kind) (read : List (List ℕ)) (k : ℕ) (d : Kind) (path : List ℕ) → k < length kinds → path ≡ path_of base (get_or kinds k d)
    → list_any (is_same_path path) read ≡ true → overwritten base (drop k kinds) read ≡ overwritten base kinds read → Some path ≡ overwritten base kinds read
found base kinds read k d path lt is here so_far =
    sym (next base kinds read k d lt ∙ cond-true _ _ _ (subst (λ p. list_any (is_same_path p) read ≡ true) is here) ∙ ap (λ p. Some p) (sym is)) ∙ so_far

pub passed : (base : List ℕ) (kinds : List Kind) (read : List (List ℕ)) (k : ℕ) (d : Kind) (path : List ℕ) → k < length kinds → path ≡ path_of base (get_or kinds k d)
    → list_any (is_same_path path) read ≡ false → overwritten base (drop k kinds) read ≡ overwritten base kinds read → overwritten base (drop (k + 1) kinds) read ≡ overwritten base kinds read
passed base kinds read k d path lt is other so_far = sym (next base kinds read k d lt ∙ cond-false _ _ _ (subst (λ p. list_any (is_same_path p) read ≡ false) is other)) ∙ so_far
