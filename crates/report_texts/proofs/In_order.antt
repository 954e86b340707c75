-- Elements that are read or named one by one.
use Rattle.std.proofs.Common.{◌≡◌, ◌+◌, ◌<◌, ℕ, List, [], ◌∷◌, ◌++◌, length, get_or, take, sym, ap, subst, ◌∙◌}
use Rattle.std.specs.List.{AllZip, flat_map}
use Rattle.std.proofs.lemmas.Grind.{flat_map-append}
use Rattle.std.proofs.lemmas.List.{append-nil, take_more}
use Rattle.zlink.proofs.Carried.{zipped-append}

-- What holds of the first elements and of the next one holds of one more.
pub one_more : {A B : Type 0} (K : A → B → Type 0) (xs : List A) (k : ℕ) (d : A) (ys all : List B) (y : B) → k < length xs → AllZip K (take k xs) ys → K (get_or xs k d) y → all ≡ ys ++ y ∷ [] → AllZip K (take (k + 1) xs) all
one_more K xs k d ys all y lt so_far this is =
    subst (λ front. AllZip K front all) (sym (take_more xs k d lt))
    (subst (AllZip K (take k xs ++ get_or xs k d ∷ [])) (sym is) (zipped-append K (take k xs) (get_or xs k d ∷ []) ys (y ∷ []) so_far (this, tt)))

-- what one more element adds
pub brought : {A : Type 0} (f : A → List ℕ) (xs : List A) (k : ℕ) (d : A) → k < length xs → flat_map f (take (k + 1) xs) ≡ flat_map f (take k xs) ++ f (get_or xs k d)
brought f xs k d lt = ap (flat_map f) (take_more xs k d lt) ∙ flat_map-append f (take k xs) (get_or xs k d ∷ []) ∙ ap (λ l. flat_map f (take k xs) ++ l) (append-nil (f (get_or xs k d)))
