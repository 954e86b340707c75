-- Lists that are changed from the front, element by element, and sums of lines.
use Rattle.std.proofs.Common.{◌≡◌, ℕ, ◌+◌, ◌<◌, ◌≤◌, List, [], ◌∷◌, ◌++◌, length, get_or, map, set, take, drop, sym, ap, ◌∙◌, arith}
use Rattle.std.proofs.lemmas.List.{append-nil, append_assoc, drop_all, drop_more, get_or_at, length-map, length-take-le, map-append, set_at, take_all, take_more}

-- the elements before i are changed, the others are as they were
abbrev pub front_changed : {X : Type 0} → (X → X) → List X → ℕ → List X
front_changed f xs i = map f (take i xs) ++ drop i xs

pub one_changed : {X : Type 0} (f : X → X) (xs : List X) (i : ℕ) (d : X) → i < length xs → set (front_changed f xs i) i (f (get_or xs i d)) ≡ front_changed f xs (i + 1)
one_changed f xs i d lt =
    let long : length (map f (take i xs)) ≡ i = length-map (take i xs) f ∙ length-take-le i xs (omega arith) in
    ap (λ rest. set (map f (take i xs) ++ rest) i (f (get_or xs i d))) (drop_more xs i d lt)
    ∙ set_at (map f (take i xs)) (get_or xs i d) (drop (i + 1) xs) (f (get_or xs i d)) i long
    ∙ sym (ap (λ front. map f front ++ drop (i + 1) xs) (take_more xs i d lt) ∙ ap (λ front. front ++ drop (i + 1) xs) (map-append f (take i xs) (get_or xs i d ∷ []))
    ∙ append_assoc (map f (take i xs)) (f (get_or xs i d) ∷ []) (drop (i + 1) xs))

pub next_unchanged : {X : Type 0} (f : X → X) (xs : List X) (i : ℕ) (d : X) → i < length xs → get_or (front_changed f xs i) i d ≡ get_or xs i d
next_unchanged f xs i d lt =
    let long : length (map f (take i xs)) ≡ i = length-map (take i xs) f ∙ length-take-le i xs (omega arith) in
    ap (λ rest. get_or (map f (take i xs) ++ rest) i d) (drop_more xs i d lt) ∙ get_or_at (map f (take i xs)) (get_or xs i d) (drop (i + 1) xs) d i long

-- the element at i is changed
pub next_changed : {X : Type 0} (f : X → X) (xs ys : List X) (i : ℕ) (d y : X) → i < length xs → ys ≡ front_changed f xs i → y ≡ f (get_or ys i d) → set ys i y ≡ front_changed f xs (i + 1)
next_changed f xs ys i d y lt so_far is =
    let here : get_or ys i d ≡ get_or xs i d = ap (λ zs. get_or zs i d) so_far ∙ next_unchanged f xs i d lt in
    ap (λ zs. set zs i y) so_far ∙ ap (λ z. set (front_changed f xs i) i z) (is ∙ ap f here) ∙ one_changed f xs i d lt

pub all_changed : {X : Type 0} (f : X → X) (xs : List X) (i : ℕ) → length xs ≤ i → front_changed f xs i ≡ map f xs
all_changed f xs i past = ap (λ rest. map f (take i xs) ++ rest) (drop_all i xs past) ∙ append-nil (map f (take i xs)) ∙ ap (map f) (take_all i xs past)
