-- Blocks that are marked one after the other.
use Rattle.std.proofs.Common.{◌≡◌, ◌<◌, ◌≤◌, ℕ, ◌+◌, List, Bool, true, false, ◌||◌, ◌&&◌, ◌==◌, not, nat_eq, MatchBool, take, length, get_or, slice_set, refl, arith, sym, ◌∙◌, ap, ◌⊎◌, inl, inr}
use Rattle.std.specs.List.{list_any}
use Rattle.std.proofs.lemmas.Bool.{cases_eq, cases_lt, cases_order, eq-eqb, ne_eqb, eqb-true, eqb-false}
use Rattle.std.proofs.Math.ListN.{length-set}
use Rattle.std.proofs.lemmas.List.{length-take, get_or_past, get_or-set_same, get_or-set_other, get_or-take}
use Rattle.std.proofs.lemmas.List.Folds.{list_any_more}
use Rattle.cpm_image.specs.Private.Marks.{AreOwn, AreSmall}
use Rattle.cpm_image.proofs.Elements.{where_any, nowhere}

-- each of the first i blocks is there once and was not marked before
pub record AreOwnBelow (marks : List Bool) (blocks : List ℕ) (i : ℕ) : Type 0 where
  pub free : (a : ℕ) → a < i → 0 < get_or blocks a 0 → get_or marks (get_or blocks a 0) false ≡ false
  pub once : (a b : ℕ) → a < b → b < i → 0 < get_or blocks a 0 → get_or blocks a 0 ≡ get_or blocks b 0 → ⊥

-- the first i blocks are marked, and `own` says whether they were their entry's own
pub record IsMarking (old marks : List Bool) (blocks : List ℕ) (i : ℕ) (own : Bool) : Type 0 where
  pub long : length marks ≡ 512
  pub marked : (b : ℕ) → b < 512 → get_or marks b false ≡ (get_or old b false || list_any (λ c. nat_eq c b) (take i blocks))
  pub are_own : AreSmall blocks → MatchBool own (AreOwnBelow old blocks i) (AreOwn old blocks → ⊥)

or_last : (o l : Bool) → (o || (l || true)) ≡ true
or_last true l = refl
or_last false true = refl
or_last false false = refl

or_none : (o l : Bool) → (o || (l || false)) ≡ (o || l)
or_none true l = refl
or_none false true = refl
or_none false false = refl

marked_more : (old marks : List Bool) (blocks : List ℕ) (i x b : ℕ) → length marks ≡ 512 → b < 512 → i < length blocks → x ≡ get_or blocks i 0 →
    get_or marks b false ≡ (get_or old b false || list_any (λ c. nat_eq c b) (take i blocks)) →
    get_or (slice_set marks x true) b false ≡ (get_or old b false || list_any (λ c. nat_eq c b) (take (i + 1) blocks))
marked_more old marks blocks i x b long fits below here was =
    let more = list_any_more (λ c. nat_eq c b) blocks i 0 below in
    elim (cases_eq b x) [
      | inl same ↦
          let hit : nat_eq (get_or blocks i 0) b ≡ true = eq-eqb _ _ (omega arith) in
          let now = get_or-set_same marks x true false (omega arith) in
          rw (same) (now ∙ sym (rw (← same, more, hit) (or_last _ _)))
      | inr other ↦
          let miss : nat_eq (get_or blocks i 0) b ≡ false = ne_eqb _ _ (λ e. other (omega arith)) in
          get_or-set_other marks x b true false other ∙ was ∙ sym (rw (more, miss) (or_none _ _))
    ]

-- one more block is tested
both : {A B C : Type 0} (own t : Bool) → MatchBool own A C → (t ≡ true → A → B) → (t ≡ false → A → C) → MatchBool (own && t) B C
both true true was more less = more refl was
both true false was more less = less refl was
both false t was more less = was

free_by : (x : ℕ) (m : Bool) → ((x == 0) || not m) ≡ true → 0 < x → m ≡ false
free_by x true h positive = let e = ne_eqb x 0 (λ e. absurd (omega arith)) in let f : (false || false) ≡ true = rw e at h in cc
free_by x false h positive = refl

taken_by : (x : ℕ) (m : Bool) → ((x == 0) || not m) ≡ false → (0 < x) × (m ≡ true)
taken_by x m h = elim (cases_eq x 0) as (λ _. (0 < x) × (m ≡ true)) [
  | inl zero_is ↦ let e = eq-eqb x 0 zero_is in let f : (true || not m) ≡ false = rw e at h in absurd (let g : true ≡ false = f in cc)
  | inr positive ↦ let e = ne_eqb x 0 positive in let f : (false || not m) ≡ false = rw e at h in (omega arith, by_flag m f)
]
  where
    by_flag : (m : Bool) → not m ≡ false → m ≡ true
    by_flag true h = refl
    by_flag false h = absurd (let g : true ≡ false = h in cc)

or_false : (a b : Bool) → false ≡ (a || b) → (a ≡ false) × (b ≡ false)
or_false true b h = absurd (let g : false ≡ true = h in cc)
or_false false b h = (refl, sym h)

or_true : (a b : Bool) → true ≡ (a || b) → (a ≡ true) ⊎ (b ≡ true)
or_true true b h = inl refl
or_true false b h = inr (sym h)

in_front : (blocks : List ℕ) (i k : ℕ) → k < i → i < length blocks → k < length (take i blocks)
in_front blocks i k h below = rw length-take (omega arith)

-- if a block is 0 or not marked, it belongs only to this entry
grown : (old marks : List Bool) (blocks : List ℕ) (i x : ℕ) → x ≡ get_or blocks i 0 → i < length blocks →
    get_or marks x false ≡ (get_or old x false || list_any (λ c. nat_eq c x) (take i blocks)) →
    ((x == 0) || not (get_or marks x false)) ≡ true → AreOwnBelow old blocks i → AreOwnBelow old blocks (i + 1)
grown old marks blocks i x here below marked t prior =
    let clear = λ (positive : 0 < x). or_false (get_or old x false) (list_any (λ c. nat_eq c x) (take i blocks)) (sym (free_by x _ t positive) ∙ marked) in
    record {
      free = λ a h positive. elim (cases_lt a i) [
        | inl lt ↦ prior.free a lt positive
        | inr ge ↦
            let same : get_or blocks a 0 ≡ x = ap (λ j. get_or blocks j 0) (let e : a ≡ i = omega arith in e) ∙ sym here in
            ap (λ y. get_or old y false) same ∙ (clear (omega arith)).0
      ];
      once = λ a b lt h positive same. elim (cases_lt b i) [
        | inl lower ↦ prior.once a b lt lower positive same
        | inr ge ↦
            let last : get_or blocks b 0 ≡ x = ap (λ j. get_or blocks j 0) (let e : b ≡ i = omega arith in e) ∙ sym here in
            let miss = nowhere (λ c. nat_eq c x) (take i blocks) 0 (clear (omega arith)).1 a (in_front blocks i a (omega arith) below) in
            eqb-false _ _ miss (get_or-take i blocks a 0 (omega arith) ∙ same ∙ last)
      ];
    }

-- if it is marked, it does not
clash : (old marks : List Bool) (blocks : List ℕ) (i x : ℕ) → x ≡ get_or blocks i 0 → i < length blocks →
    get_or marks x false ≡ (get_or old x false || list_any (λ c. nat_eq c x) (take i blocks)) →
    ((x == 0) || not (get_or marks x false)) ≡ false → AreOwn old blocks → ⊥
clash old marks blocks i x here below marked t own =
    let found = taken_by x _ t in
    let positive = found.0 in
    elim (or_true _ _ (sym found.1 ∙ marked)) [
      | inl before ↦
          let free : get_or old x false ≡ false = ap (λ y. get_or old y false) here ∙ own.free i (omega arith) in
          let both_are : true ≡ false = sym before ∙ free in
          absurd cc
      | inr among ↦
          let place = where_any (λ c. nat_eq c x) (take i blocks) 0 among in
          let lower : place.0 < i = omega (arith, rw length-take at place.1) in
          let same : get_or blocks place.0 0 ≡ get_or blocks i 0 = sym (get_or-take i blocks place.0 0 lower) ∙ eqb-true _ _ place.2 ∙ here in
          let equal = own.once place.0 i (omega arith) same in
          omega arith
    ]

pub turn : {old marks : List Bool} {blocks : List ℕ} {i : ℕ} {own : Bool} (x : ℕ) → IsMarking old marks blocks i own → i < length blocks → x ≡ get_or blocks i 0 →
    IsMarking old (slice_set marks x true) blocks (i + 1) (own && ((x == 0) || not (get_or marks x false)))
turn {old = old} {marks = marks} {blocks = blocks} {i = i} {own = own} x was below here = record {
  long = let same = length-set marks x true in omega (arith, was.long);
  marked = λ b h. marked_more old marks blocks i x b was.long h below here (was.marked b h);
  are_own = λ small. (
      let fits = small i in
      both own _ (was.are_own small) (λ t prior. grown old marks blocks i x here below (was.marked x (omega arith)) t prior) (λ t _. clash old marks blocks i x here below (was.marked x (omega arith)) t));
}

pub start : (old : List Bool) (blocks : List ℕ) → length old ≡ 512 → IsMarking old old blocks 0 true
start old blocks long = record {
  long = long;
  marked = λ b h. sym (none (get_or old b false));
  are_own = λ _. record { free = λ a h. absurd (omega arith); once = λ a b lt h. absurd (omega arith) };
}
  where
    none : (o : Bool) → (o || false) ≡ o
    none true = refl
    none false = refl

-- a block number other than 0 is within the list
pub within : (blocks : List ℕ) (a : ℕ) → 0 < get_or blocks a 0 → a < length blocks
within blocks a h = elim (cases_lt a (length blocks)) [ inl lt ↦ lt | inr ge ↦ absurd (let past = get_or_past blocks a 0 ge in omega arith) ]

own_of : {old : List Bool} {blocks : List ℕ} {i : ℕ} → length blocks ≤ i → AreOwnBelow old blocks i → AreOwn old blocks
own_of {blocks = blocks} all below = record {
  free = λ a h. let w = within blocks a h in below.free a (omega arith) h;
  once = λ a b h same.
      let w = within blocks a h in
      let v = within blocks b (omega arith) in
      elim (cases_order a b) [
        | inl equal ↦ equal
        | inr rest ↦ elim rest [
          | inl lt ↦ absurd (below.once a b lt (omega arith) h same)
          | inr gt ↦ absurd (below.once b a gt (omega arith) (omega arith) (sym same))
        ]
      ];
}

judged : {A B : Type 0} (C : Type 0) (own : Bool) → MatchBool own A C → (A → B) → MatchBool own B C
judged C true was more = more was
judged C false was more = was

pub finished : {old marks : List Bool} {blocks : List ℕ} {i : ℕ} {own : Bool} → IsMarking old marks blocks i own → length blocks ≤ i → AreSmall blocks → MatchBool own (AreOwn old blocks) (AreOwn old blocks → ⊥)
finished {own = own} was all small = judged _ own (was.are_own small) (own_of all)
