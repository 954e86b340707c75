-- Sums of what comes before each statement.
use Rattle.std.proofs.Common.{◌≡◌, ◌≤◌, ◌<◌, ℕ, zero, suc, ◌+◌, ◌-◌, ◌%◌, Bool, true, false, cond, List, [], ◌∷◌, ◌++◌, Some, length, get_or, inl, inr, length-append, take, drop, slice_get, nat_eq, nat_lt, nat_le, if◌then◌else◌, ◌||◌, refl, sym, ap, subst, ◌∙◌, arith}
use Rattle.std.specs.List.{list_any, count_by, sum_by}
use Rattle.std.proofs.lemmas.List.{take-take, drop-take, map-append, length-map, take-append-le, get_or_append_left, get_or-append_right}
use Rattle.std.proofs.Math.Seq.{take-length}
use Rattle.std.proofs.lemmas.Option.{slice_get-get_or, slice_get_within, get_or_from_slice_get}
use Rattle.std.proofs.lemmas.List.Sums.{sum_by-cons, sum_by_push, sum_by-take-drop}
use Rattle.std.proofs.lemmas.Bool.{eq-eqb, cases_lt, eqb-true, le-ltb, leb-true, leb-false}
use Rattle.asm_parse.specs.Types.{Statement, Worth}
use Rattle.asm_parse.specs.declared.values.layout.Before.{Before}
use Rattle.asm_parse.specs.declared.values.layout.Passed.{Passed}
use Rattle.asm_parse.specs.Values.Arithmetic.{modulus}
use Rattle.asm_parse.specs.Values.Distances.{is_relaxable, is_unsized, statement_bytes, statements_between, bytes_taken, backwards, distance}
use Rattle.asm_parse.specs.Private.Sums.{IsBefore, AreSummed, statements_of, gap}

split : (f : Statement → ℕ) (s : List Statement) (low high : ℕ) → low ≤ high → sum_by f (take high s) ≡ sum_by f (take low s) + sum_by f (statements_between s low high)
split f s low high h =
    let high_is : low + (high - low) ≡ high = omega (arith, h) in
    let all = sum_by-take-drop f (take high s) low in
    let front = ap (sum_by f) (take-take low high s h) in
    let back : drop low (take high s) ≡ statements_between s low high = ap (λ k. drop low (take k s)) (sym high_is) ∙ drop-take low (high - low) s in
    let back = ap (sum_by f) back in
    omega (arith, all, front, back)

abbrev some : ℕ → Bool
some zero = false
some (suc n) = true

some_of : (n : ℕ) → 0 < n → some n ≡ true
some_of zero h = absurd (omega (arith, h))
some_of (suc n) h = refl

counted : (p : Statement → Bool) (s : List Statement) → list_any p s ≡ some (count_by p s)
counted p [] = refl
counted p (x ∷ s) =
    let sum = sum_by-cons (λ y. cond (p y) 1 0) x s in
    elim (p x) as (λ b. p x ≡ b → list_any p (x ∷ s) ≡ some (count_by p (x ∷ s))) [
      | true ↦ λ is. ap (λ b. b || list_any p s) is ∙ sym (some_of (count_by p (x ∷ s)) (let first : cond (p x) 1 0 ≡ 1 = ap (λ b. cond {A = ℕ} b 1 0) is in omega (arith, sum, first)))
      | false ↦ λ is. ap (λ b. b || list_any p s) is ∙ counted p s ∙ ap some (sym (let first : cond (p x) 1 0 ≡ 0 = ap (λ b. cond {A = ℕ} b 1 0) is in let same : count_by p (x ∷ s) ≡ count_by p s = omega (arith, sum, first) in same))
    ] refl

-- what is known of a size, given three sums
abbrev tallied : ℕ → ℕ → ℕ → Worth
tallied relaxable unknown n = if some relaxable then Worth.Varies else if some unknown then Worth.Unknown else Worth.Number (n % modulus)

tally : (s : List Statement) → bytes_taken s ≡ tallied (count_by is_relaxable s) (count_by is_unsized s) (sum_by statement_bytes s)
tally s =
    ap (λ b. if b then Worth.Varies else if list_any is_unsized s then Worth.Unknown else Worth.Number (sum_by statement_bytes s % modulus)) (counted is_relaxable s)
    ∙ ap (λ b. if some (count_by is_relaxable s) then Worth.Varies else if b then Worth.Unknown else Worth.Number (sum_by statement_bytes s % modulus)) (counted is_unsized s)

neq : (a b : ℕ) → (a ≡ b → ⊥) → nat_eq a b ≡ false
neq a b differ = elim (nat_eq a b) as (λ r. nat_eq a b ≡ r → r ≡ false) [
  | false ↦ λ _. refl
  | true ↦ λ is. absurd (differ (eqb-true a b is))
] refl

-- a distance, given the results of its two tests
tested : Before → Before → Bool → Bool → Worth
tested x y steady known = if steady then (if known then Worth.Number ((x.bytes + (modulus - y.bytes)) % modulus) else Worth.Unknown) else Worth.Varies

forth_gap : (x y : Before) (r u n m : ℕ) → x.relaxable ≡ y.relaxable + r → x.unknown ≡ y.unknown + u → y.bytes ≡ m % modulus → x.bytes ≡ (m + n) % modulus → gap x y ≡ tallied r u n
unfolding tested
forth_gap x y zero zero n m er eu ey ex =
    ap (λ b. tested x y b (nat_eq x.unknown y.unknown)) (eq-eqb x.relaxable y.relaxable (omega (arith, er))) ∙ ap (tested x y true) (eq-eqb x.unknown y.unknown (omega (arith, eu)))
    ∙ ap Worth.Number (omega (arith, ey, ex))
forth_gap x y zero (suc u) n m er eu ey ex =
    ap (λ b. tested x y b (nat_eq x.unknown y.unknown)) (eq-eqb x.relaxable y.relaxable (omega (arith, er))) ∙ ap (tested x y true) (neq x.unknown y.unknown (λ e. omega (arith, eu, e)))
forth_gap x y (suc r) u n m er eu ey ex = ap (λ b. tested x y b (nat_eq x.unknown y.unknown)) (neq x.relaxable y.relaxable (λ e. omega (arith, er, e)))

back_gap : (x y : Before) (r u n m : ℕ) → y.relaxable ≡ x.relaxable + r → y.unknown ≡ x.unknown + u → x.bytes ≡ m % modulus → y.bytes ≡ (m + n) % modulus → gap x y ≡ backwards (tallied r u n)
unfolding tested
back_gap x y zero zero n m er eu ex ey =
    ap (λ b. tested x y b (nat_eq x.unknown y.unknown)) (eq-eqb x.relaxable y.relaxable (omega (arith, er))) ∙ ap (tested x y true) (eq-eqb x.unknown y.unknown (omega (arith, eu)))
    ∙ ap Worth.Number (omega (arith, ey, ex))
back_gap x y zero (suc u) n m er eu ex ey =
    ap (λ b. tested x y b (nat_eq x.unknown y.unknown)) (eq-eqb x.relaxable y.relaxable (omega (arith, er))) ∙ ap (tested x y true) (neq x.unknown y.unknown (λ e. omega (arith, eu, e)))
back_gap x y (suc r) u n m er eu ex ey = ap (λ b. tested x y b (nat_eq x.unknown y.unknown)) (neq x.relaxable y.relaxable (λ e. omega (arith, er, e)))

pub gap_distance : (s : List Statement) (p q : ℕ) (x y : Before) → p ≤ length s → q ≤ length s → IsBefore (take p s) x → IsBefore (take q s) y → gap x y ≡ distance s p q
gap_distance s p q x y hp hq bx by =
    let inside : distance s p q ≡ (if nat_le q p then bytes_taken (statements_between s q p) else backwards (bytes_taken (statements_between s p q))) =
    ap (λ b. if b || nat_lt (length s) q then Worth.Varies else if nat_le q p then bytes_taken (statements_between s q p) else backwards (bytes_taken (statements_between s p q))) (le-ltb (length s) p hp)
    ∙ ap (λ b. if b then Worth.Varies else if nat_le q p then bytes_taken (statements_between s q p) else backwards (bytes_taken (statements_between s p q))) (le-ltb (length s) q hq) in
    sym (inside ∙ elim (nat_le q p) as (λ b. nat_le q p ≡ b → (if b then bytes_taken (statements_between s q p) else backwards (bytes_taken (statements_between s p q))) ≡ gap x y) [
      | true ↦ λ le.
          let le = leb-true q p le in
          tally (statements_between s q p) ∙ sym (forth_gap x y _ _ _ _ (bx.relaxable ∙ split (λ z. cond (is_relaxable z) 1 0) s q p le ∙ ap (λ k. k + count_by is_relaxable (statements_between s q p)) (sym by.relaxable))
          (bx.unknown ∙ split (λ z. cond (is_unsized z) 1 0) s q p le ∙ ap (λ k. k + count_by is_unsized (statements_between s q p)) (sym by.unknown))
          by.bytes (bx.bytes ∙ ap (λ k. k % modulus) (split statement_bytes s q p le)))
      | false ↦ λ lt.
          let less = leb-false q p lt in
          let le : p ≤ q = omega (arith, less) in
          ap backwards (tally (statements_between s p q)) ∙ sym (back_gap x y _ _ _ _ (by.relaxable ∙ split (λ z. cond (is_relaxable z) 1 0) s p q le ∙ ap (λ k. k + count_by is_relaxable (statements_between s p q)) (sym bx.relaxable))
          (by.unknown ∙ split (λ z. cond (is_unsized z) 1 0) s p q le ∙ ap (λ k. k + count_by is_unsized (statements_between s p q)) (sym bx.unknown))
          bx.bytes (by.bytes ∙ ap (λ k. k % modulus) (split statement_bytes s p q le)))
    ] refl)

-- One statement more is appended.
pub pushed : (s : List Statement) (x : Statement) (b after : Before) → IsBefore s b → after.bytes ≡ (b.bytes + statement_bytes x) % modulus → after.relaxable ≡ b.relaxable + cond (is_relaxable x) 1 0
    → after.unknown ≡ b.unknown + cond (is_unsized x) 1 0 → IsBefore (s ++ x ∷ []) after
pushed s x b after before bytes relaxable unknown = record {
  bytes = omega (arith, bytes, before.bytes, sum_by_push statement_bytes s x);
  relaxable = relaxable ∙ ap (λ k. k + cond (is_relaxable x) 1 0) before.relaxable ∙ sym (sum_by_push (λ y. cond (is_relaxable y) 1 0) s x);
  unknown = unknown ∙ ap (λ k. k + cond (is_unsized x) 1 0) before.unknown ∙ sym (sum_by_push (λ y. cond (is_unsized y) 1 0) s x);
}

pub summed : (passed : List Passed) (end after : Before) (x : Statement) → AreSummed passed end → IsBefore (statements_of passed ++ x ∷ []) after
    → AreSummed (passed ++ record { statement = x; before = end } ∷ []) after
summed passed end after x are now =
    let p : Passed = record { statement = x; before = end } in
    let whole : statements_of (passed ++ p ∷ []) ≡ statements_of passed ++ x ∷ [] = map-append (λ q. q.statement) passed (p ∷ []) in
    record {
      each = λ k q at. elim (cases_lt k (length passed)) [
        | inl below ↦
            let same : slice_get passed k ≡ Some q =
            slice_get-get_or passed k q below ∙ ap Some (sym (get_or_append_left passed (p ∷ []) q k below) ∙ get_or_from_slice_get (passed ++ p ∷ []) k q q at) in
            let front : take k (statements_of (passed ++ p ∷ [])) ≡ take k (statements_of passed) =
            ap (take k) whole ∙ take-append-le k (statements_of passed) (x ∷ []) (omega (arith, below, length-map passed (λ q. q.statement))) in
            rw front (are.each k q same)
        | inr past ↦
            let within = slice_get_within (passed ++ p ∷ []) k q at in
            let last : k ≡ length passed = omega (arith, past, within, length-append passed (p ∷ [])) in
            let none : k - length passed ≡ 0 = omega (arith, last) in
            let is : p ≡ q = sym (get_or-append_right passed (p ∷ []) (length passed) k q refl past ∙ ap (λ n. get_or (p ∷ []) n q) none) ∙ get_or_from_slice_get (passed ++ p ∷ []) k q q at in
            let front : take k (statements_of (passed ++ p ∷ [])) ≡ statements_of passed =
            ap (take k) whole ∙ take-append-le k (statements_of passed) (x ∷ []) (omega (arith, last, length-map passed (λ q. q.statement)))
            ∙ ap (λ n. take n (statements_of passed)) (last ∙ sym (length-map passed (λ q. q.statement))) ∙ take-length (statements_of passed) in
            rw front (subst (λ r. IsBefore (statements_of passed) r.before) is are.all)
      ];
      all = rw whole now;
    }
