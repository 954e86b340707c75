-- One more statement is described.
use Rattle.std.proofs.Common.{◌≡◌, ◌<◌, ◌+◌, ◌-◌, ℕ, zero, suc, All, List, [], ◌∷◌, ◌++◌, true, false, Some, Vec, length, take, drop, get_or, refl, sym, arith, ap, ◌∙◌, add-one}
use Rattle.std.specs.List.{enumerate_from, filter_map, slice_get}
use Rattle.std.proofs.lemmas.List.{append-nil, length-take-le, map-append, take_more}
use Rattle.std.proofs.lemmas.List.Elements.{All-get_or, All-push, All-weaker, filter_map-append}
use Rattle.std.proofs.lemmas.Option.{slice_get-get_or}
use Rattle.std.proofs.lemmas.List.Sorted.{IsNonDecreasingBy-push}
use Rattle.relax.specs.declared.shape.Statement.{Statement}
use Rattle.relax.specs.declared.shape.Statement.TheVariants.{Fixed, Jump, Short}
use Rattle.relax.specs.Choice.{Choice}
use Rattle.program_map.specs.declared.reasons.long_jumps.LongJump.{LongJump}
use Rattle.program_map.specs.Reasons.Reasons.{long_at, long_numbers}
use Rattle.program_map.specs.Private.Gathered.{AreDescribed, Describes, IsDescribed, items_at}

-- the first element of what is left
pub first_left : {A : Type 0} (xs : List A) (k : ℕ) (x : A) (rest : List A) → drop k xs ≡ x ∷ rest → (slice_get xs k ≡ Some x) × (drop (k + 1) xs ≡ rest)
first_left [] zero x rest e = absurd (cc e)
first_left (y ∷ ys) zero x rest e = (cc e, cc e)
first_left [] (suc k) x rest e = absurd (cc e)
first_left (y ∷ ys) (suc k) x rest e = let there = first_left ys k x rest e in (there.0, rw (add-one (suc k)) (rw (add-one k) at there.1))

enumerate-more : {A : Type 0} (n : ℕ) (xs : List A) (x : A) → enumerate_from n (xs ++ x ∷ []) ≡ enumerate_from n xs ++ (n + length xs, x) ∷ []
enumerate-more n [] x = let e : n ≡ n + 0 = omega arith in ap (λ m. (m, x) ∷ []) e
enumerate-more n (y ∷ ys) x =
    let e : (n + 1) + length ys ≡ n + suc (length ys) = omega arith in
    ap (λ l. (n, y) ∷ l) (enumerate-more (n + 1) ys x ∙ ap (λ m. enumerate_from (n + 1) ys ++ (m, x) ∷ []) e)

numbers-more : (c : Choice) (shape : List Statement) (k : ℕ) → k < length shape → long_numbers c (take (k + 1) shape) ≡ long_numbers c (take k shape) ++ filter_map (long_at c) ((k, get_or shape k (Fixed 0)) ∷ [])
numbers-more c shape k lt =
    let len : 0 + length (take k shape) ≡ k = omega (arith, length-take-le k shape (omega arith)) in
    rw (take_more shape k (Fixed 0) lt, enumerate-more 0 (take k shape) (get_or shape k (Fixed 0)), filter_map-append (long_at c) (enumerate_from 0 (take k shape)), len) refl

module _ {A : Type 0} (shape : List Statement) (c : Choice) (places : List ℕ) (reasons : List (Vec ℕ A)) (k : ℕ) (jumps : List LongJump) (was : AreDescribed k shape c places reasons jumps) (lt : k < length shape) where
  weaker : All (λ j. j.statement < k + 1) jumps
  weaker = All-weaker (λ j. j.statement < k) (λ j. j.statement < k + 1) (λ j less. omega arith) jumps was.below

  pub described-skip : filter_map (long_at c) ((k, get_or shape k (Fixed 0)) ∷ []) ≡ [] → AreDescribed (k + 1) shape c places reasons jumps
  described-skip none = record {
    each = was.each;
    below = weaker;
    ascending = was.ascending;
    numbers = was.numbers ∙ sym (numbers-more c shape k lt ∙ rw none (append-nil _));
  }

  pub described-more : (j : LongJump) → IsDescribed shape c places reasons j → j.statement ≡ k → filter_map (long_at c) ((k, get_or shape k (Fixed 0)) ∷ []) ≡ k ∷ [] → AreDescribed (k + 1) shape c places reasons (jumps ++ j ∷ [])
  described-more j is here one = record {
    each = All-push (IsDescribed shape c places reasons) jumps j was.each is;
    below = All-push (λ i. i.statement < k + 1) jumps j weaker (omega arith);
    ascending = IsNonDecreasingBy-push (λ i. i.statement) jumps j was.ascending (λ d some. (let last = All-get_or (λ i. i.statement < k) jumps (length jumps - 1) d (omega arith) was.below in omega arith));
    numbers = rw (map-append (λ i. i.statement) jumps (j ∷ []), was.numbers, here, numbers-more c shape k lt, one) refl;
  }

-- which statements are listed
pub not_listed : (c : Choice) (k : ℕ) (s : Statement) → ((t : ℕ) → s ≡ Jump t → ⊥) → filter_map (long_at c) ((k, s) ∷ []) ≡ []
not_listed c k (Fixed n) none = refl
not_listed c k (Jump t) none = absurd (none t refl)
not_listed c k (Short t) none = refl

pub not_listed_short : (c : Choice) (k : ℕ) (s : Statement) (t : ℕ) → s ≡ Jump t → c k ≡ false → filter_map (long_at c) ((k, s) ∷ []) ≡ []
not_listed_short c k s t jump short = rw (jump, short) refl

pub listed : (c : Choice) (k : ℕ) (s : Statement) (t : ℕ) → s ≡ Jump t → c k ≡ true → filter_map (long_at c) ((k, s) ∷ []) ≡ k ∷ []
listed c k s t jump long = rw (jump, long) refl

-- the record of a long jump
pub described : {A : Type 0} (shape : List Statement) (c : Choice) (places : List ℕ) (reasons : List (Vec ℕ A)) (k t : ℕ) → k < length shape → get_or shape k (Fixed 0) ≡ Jump t → c k ≡ true → (j : LongJump) → Describes places k t (items_at reasons k) j → IsDescribed shape c places reasons j
described shape c places reasons k t lt jump long j is = record {
  jump = rw (is.statement, is.target) (slice_get-get_or shape k (Fixed 0) lt ∙ ap Some jump);
  long = rw is.statement long;
  describes = record {
    statement = refl;
    target = refl;
    distance = rw (is.statement, is.target) is.distance;
    excess = rw (is.statement, is.target) is.excess;
    reason = rw is.statement is.reason;
  };
}
