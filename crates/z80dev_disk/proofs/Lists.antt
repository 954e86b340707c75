-- Lists that are joined part by part.
use Rattle.std.proofs.Common.{◌≡◌, ◌<◌, ◌≤◌, ℕ, zero, suc, ◌+◌, min, get_or, length, take, drop, codes, inl, inr, List, [], ◌∷◌, ◌++◌, refl, sym, ap, ◌∙◌, arith}
use Rattle.std.proofs.lemmas.Bool.{cases_lt}
use Rattle.std.specs.List.{concat, flat_map, range_with_len}
use Rattle.std.proofs.lemmas.List.{append_assoc, append-nil, drop_all, flat_map_more, length-drop, length-take, take_all, take_more}
use borrow.Rule.Slice.PartMut.{mid_of}
use Rattle.std.proofs.lemmas.List.Concat.{flat_map-cons}

-- the sectors one after the other
pub flattened : (xs : List (List ℕ)) → flat_map (λ x. x) xs ≡ concat xs
flattened [] = refl
flattened (x ∷ xs) = flat_map-cons (λ y. y) x xs ∙ ap (λ ys. x ++ ys) (flattened xs)

-- the bytes for n + 1 numbers are those for n numbers and then those for the last
one_next : (f : ℕ → List ℕ) (a n : ℕ) → flat_map f (range_with_len a (suc n)) ≡ flat_map f (range_with_len a n) ++ f (a + n)
one_next f a zero = let here : a ≡ a + 0 = omega arith in append-nil (f a) ∙ ap f here
one_next f a (suc n) =
    let next : a + 1 + n ≡ a + suc n = omega arith in
    ap (λ ys. f a ++ ys) (one_next f (a + 1) n) ∙ sym (append_assoc (f a) (flat_map f (range_with_len (a + 1) n)) (f (a + 1 + n)))
    ∙ ap (λ m. f a ++ flat_map f (range_with_len (a + 1) n) ++ f m) next

pub one_more : (f : ℕ → List ℕ) (n : ℕ) → flat_map f (range_with_len 0 (n + 1)) ≡ flat_map f (range_with_len 0 n) ++ f n
one_more f n =
    let next : n + 1 ≡ suc n = omega arith in
    let here : 0 + n ≡ n = omega arith in
    ap (λ m. flat_map f (range_with_len 0 m)) next ∙ one_next f 0 n ∙ ap (λ m. flat_map f (range_with_len 0 n) ++ f m) here

-- the bytes for n + 1 elements are those for n elements and then those for element n: the step of a loop
pub flat_step : {X : Type 0} (f : X → List ℕ) (xs : List X) (n : ℕ) (x : X) → n < length xs → x ≡ get_or xs n x → flat_map f (take (n + 1) xs) ≡ flat_map f (take n xs) ++ f x
flat_step f xs n x below is = ap (flat_map f) (take_more xs n x below ∙ ap (λ y. take n xs ++ y ∷ []) (sym is)) ∙ sym (flat_map_more f [] (take n xs) x)

-- the first record of the rest of a file, and what follows it
pub cut_off : (rest : List ℕ) (m : ℕ) → m ≡ min (length rest) 128 → (length (take m rest) ≤ 128) × (take m rest ≡ take 128 rest) × (drop m rest ≡ drop 128 rest)
cut_off rest m is = elim (cases_lt (length rest) 128) as (λ _. (length (take m rest) ≤ 128) × (take m rest ≡ take 128 rest) × (drop m rest ≡ drop 128 rest)) [
  | inl short ↦ (
      let all : take m rest ≡ rest = take_all m rest (omega (arith, is, short)) in
      (omega (arith, ap length all, short), all ∙ sym (take_all 128 rest (omega (arith, short))), drop_all m rest (omega (arith, is, short)) ∙ sym (drop_all 128 rest (omega (arith, short)))))
  | inr long ↦ (
      let whole : m ≡ 128 = omega (arith, is, long) in
      (omega (arith, whole, length-take m rest), ap (λ n. take n rest) whole, ap (λ n. drop n rest) whole))
]

-- a line of `dir` is equal to another if all its parts are
pub line_is : (user name kind records usage only system : List ℕ) (u n k r t o s : List ℕ) → u ≡ user → n ≡ name → k ≡ kind → r ≡ records → t ≡ usage → o ≡ only → s ≡ system
    → concat (u ∷ n ∷ codes "." ∷ k ∷ r ∷ t ∷ o ∷ s ∷ (10 ∷ []) ∷ []) ≡ concat (user ∷ name ∷ codes "." ∷ kind ∷ records ∷ usage ∷ only ∷ system ∷ (10 ∷ []) ∷ [])
line_is user name kind records usage only system u n k r t o s a b c d e f g = rw (a, b, c, d, e, f, g) refl

-- the same for a line of `check-disk`
pub broken_is : (number user name kind rule : List ℕ) (n u a k r : List ℕ) → n ≡ number → u ≡ user → a ≡ name → k ≡ kind → r ≡ rule
    → concat (n ∷ u ∷ a ∷ codes "." ∷ k ∷ codes " " ∷ r ∷ (10 ∷ []) ∷ []) ≡ concat (number ∷ user ∷ name ∷ codes "." ∷ kind ∷ codes " " ∷ rule ∷ (10 ∷ []) ∷ [])
broken_is number user name kind rule n u a k r b c d e f = rw (b, c, d, e, f) refl

-- the type of a name
pub last_three : (name : List ℕ) → length name ≡ 11 → mid_of 8 3 name ≡ drop 8 name
last_three name eleven = take_all 3 (drop 8 name) (omega (arith, eleven, length-drop 8 name))
