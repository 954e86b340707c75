-- One module more.
use Rattle.std.proofs.Common.{◌≡◌, ◌+◌, ◌<◌, ◌++◌, ℕ, List, append_assoc, drop, get_or, length, map, sym, ap, ◌∙◌}
use Rattle.std.proofs.lemmas.List.{drop_more}
use Rattle.std.specs.List.{flat_map}

pub one_more : {X Y Z : Type 0} (f : Y → List Z) (g : X → Y) (xs : List X) (i : ℕ) (x : X) (found new : List Z) → i < length xs → x ≡ get_or xs i x → new ≡ found ++ f (g x)
    → new ++ flat_map f (map g (drop (i + 1) xs)) ≡ found ++ flat_map f (map g (drop i xs))
one_more f g xs i x found new h is was =
    ap (λ ys. ys ++ flat_map f (map g (drop (i + 1) xs))) (was ∙ ap (λ y. found ++ f (g y)) is)
    ∙ (append_assoc found (f (g (get_or xs i x))) (flat_map f (map g (drop (i + 1) xs))) ∙ ap (λ ys. found ++ flat_map f (map g ys)) (sym (drop_more xs i x h)))
