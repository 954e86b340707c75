-- The number of an address is that of its nearest label.
use Rattle.std.proofs.Common.{◌≡◌, ◌≢◌, ◌<◌, ◌≤◌, ◌+◌, ◌-◌, ◌∷◌, [], Bor, ℕ, zero, suc, Bool, true, false, List, Option, Some, None, cond, refl, sym, ap, subst, ◌∙◌, arith, get_or, inl, inr, length, map}
use Rattle.std.specs.Prelude.{◌==◌, if◌then◌else◌, IfSome, find, is_some, max, nat_le, nat_lt, reverse, slice_get}
use Rattle.std.specs.List.{list_any}
use Rattle.std.specs.Option.{option_map, option_or}
use Rattle.std.proofs.Math.Nat.{le-max_left, le-max_right, max-le}
use Rattle.std.proofs.lemmas.Bool.{cases_Bool, cond-false, cond-true, eq-eqb, eqb-true, le-leb, leb-true, ltb-false, ltb-true, ne_eqb, or_cases, or_parts}
use Rattle.std.proofs.lemmas.Bool.Decides.{nat_tests}
use Rattle.std.proofs.lemmas.List.{get_or_default, reverse-append}
use Rattle.std.proofs.lemmas.List.Folds.{find-append}
use Rattle.std.proofs.lemmas.Option.{slice_get-map, slice_get_past}
use Rattle.state_text.specs.Labelled.{highest_address, label_up_to, labels_up_to, last_label_at}
use Rattle.state_text.specs.Private.Numbers.{AreNumbers, AreNumbersIfAny, last_at, last_below, nearest_number}

abbrev pub Label : Type 0
Label = ℕ × List ℕ

abbrev is_at : ℕ → Label → Bool
is_at a label = label.0 == a

-- ---- the last label at an address

last_label-cons : (a : ℕ) (label : Label) (labels : List Label) → last_label_at a (label ∷ labels) ≡ option_or (last_label_at a labels) (cond (is_at a label) (Some label) None)
last_label-cons a label labels = ap (find (is_at a)) (reverse-append (label ∷ []) labels) ∙ find-append (is_at a) (reverse labels) (label ∷ [])

no_label : (a : ℕ) (labels : List Label) → list_any (is_at a) labels ≡ false → last_label_at a labels ≡ None
no_label a [] none = refl
no_label a (label ∷ labels) none =
    let parts = or_parts (is_at a label) (list_any (is_at a) labels) none in
    last_label-cons a label labels ∙ ap (λ o. option_or o (cond (is_at a label) (Some label) None)) (no_label a labels parts.1) ∙ cond-false (is_at a label) (Some label) None parts.0

no_number : (a found n : ℕ) (labels : List Label) → list_any (is_at a) labels ≡ false → last_at found n labels a ≡ found
no_number a found n [] none = refl
no_number a found n (label ∷ labels) none =
    let parts = or_parts (is_at a label) (list_any (is_at a) labels) none in
    ap (λ (b : Bool). last_at (if b then n + 1 else found) (n + 1) labels a) parts.0 ∙ no_number a found (n + 1) labels parts.1

-- the label at an address has the number of the last one there
record IsNumbered (a found n : ℕ) (labels : List Label) : Type 0 where
  index : ℕ
  label : Label
  number : last_at found n labels a ≡ n + suc index
  got : slice_get labels index ≡ Some label
  last : last_label_at a labels ≡ Some label

numbered : (a found n : ℕ) (labels : List Label) → list_any (is_at a) labels ≡ true → IsNumbered a found n labels
numbered a found n [] some = absurd (cc)
numbered a found n (label ∷ labels) some = elim (cases_Bool (list_any (is_at a) labels)) [
  | inl later ↦
      let rest = numbered a (if is_at a label then n + 1 else found) (n + 1) labels later in
      let number = rest.number in
      record {
        index = suc rest.index;
        label = rest.label;
        number = omega (arith, number);
        got = rest.got;
        last = last_label-cons a label labels ∙ ap (λ o. option_or o (cond (is_at a label) (Some label) None)) rest.last;
      }
  | inr none ↦
      let here : is_at a label ≡ true = elim (or_cases (is_at a label) (list_any (is_at a) labels) some) [ inl e ↦ e | inr e ↦ absurd (cc) ] in
      let number = ap (λ (b : Bool). last_at (if b then n + 1 else found) (n + 1) labels a) here ∙ no_number a (n + 1) (n + 1) labels none in
      record {
        index = 0;
        label = label;
        number = omega (arith, number);
        got = refl;
        last = last_label-cons a label labels ∙ ap (λ o. option_or o (cond (is_at a label) (Some label) None)) (no_label a labels none) ∙ cond-true (is_at a label) (Some label) None here;
      }
]

-- ---- the highest address

highest-low : (a : ℕ) (labels : List Label) → highest_address (labels_up_to a labels) ≤ a
highest-low a [] = omega arith
highest-low a (label ∷ labels) = elim (cases_Bool (nat_le label.0 a)) [
  | inl low ↦ subst (λ ls. highest_address ls ≤ a) (sym (cond-true (nat_le label.0 a) (label ∷ labels_up_to a labels) (labels_up_to a labels) low)) (max-le (leb-true label.0 a low) (highest-low a labels))
  | inr high ↦ subst (λ ls. highest_address ls ≤ a) (sym (cond-false (nat_le label.0 a) (label ∷ labels_up_to a labels) (labels_up_to a labels) high)) (highest-low a labels)
]

highest-high : (a : ℕ) (labels : List Label) → list_any (is_at a) labels ≡ true → a ≤ highest_address (labels_up_to a labels)
highest-high a [] some = absurd (cc)
highest-high a (label ∷ labels) some = elim (cases_Bool (nat_le label.0 a)) [
  | inl low ↦
      let kept = cond-true (nat_le label.0 a) (label ∷ labels_up_to a labels) (labels_up_to a labels) low in
      let left = le-max_left label.0 (highest_address (labels_up_to a labels)) in
      let right = le-max_right label.0 (highest_address (labels_up_to a labels)) in
      subst (λ ls. a ≤ highest_address ls) (sym kept) (elim (or_cases (is_at a label) (list_any (is_at a) labels) some) [
        | inl here ↦ let e = eqb-true label.0 a here in omega (arith, e, left)
        | inr later ↦ let rest = highest-high a labels later in omega (arith, rest, right)
      ])
  | inr high ↦
      let left_out = cond-false (nat_le label.0 a) (label ∷ labels_up_to a labels) (labels_up_to a labels) high in
      subst (λ ls. a ≤ highest_address ls) (sym left_out) (elim (or_cases (is_at a label) (list_any (is_at a) labels) some) [
        | inl here ↦ let e = eqb-true label.0 a here in let low : nat_le label.0 a ≡ true = le-leb label.0 a (omega (arith, e)) in absurd (cc)
        | inr later ↦ highest-high a labels later
      ])
]

highest-at : (a : ℕ) (labels : List Label) → list_any (is_at a) labels ≡ true → highest_address (labels_up_to a labels) ≡ a
highest-at a labels some = let low = highest-low a labels in let high = highest-high a labels some in omega (arith, low, high)

next_test : (x a : ℕ) → (x == suc a) ≡ false → nat_le x (suc a) ≡ nat_le x a
next_test x a other = grind (arith, nat_tests, other)

-- without a label at the next address, the same labels are up to it
up_to-next : (a : ℕ) (labels : List Label) → list_any (is_at (suc a)) labels ≡ false → labels_up_to (suc a) labels ≡ labels_up_to a labels
up_to-next a [] none = refl
up_to-next a (label ∷ labels) none =
    let parts = or_parts (is_at (suc a) label) (list_any (is_at (suc a)) labels) none in
    let rest = up_to-next a labels parts.1 in
    let same : nat_le label.0 (suc a) ≡ nat_le label.0 a = next_test label.0 a parts.0 in
    ap (λ (b : Bool). cond b (label ∷ labels_up_to (suc a) labels) (labels_up_to (suc a) labels)) same ∙ ap (λ ls. cond (nat_le label.0 a) (label ∷ ls) ls) rest

-- ---- the number of an address

or_zero : (k : ℕ) → (if k == 0 then 0 else k) ≡ k
or_zero zero = refl
or_zero (suc k) = cond-false (suc k == 0) 0 (suc k) (ne_eqb (suc k) 0 (omega arith))

nonzero : (k n : ℕ) → k ≡ 0 + suc n → (k == 0) ≡ false
nonzero k n e = ne_eqb k 0 (omega (arith, e))

number_is : (labels : List Label) (a : ℕ) → nearest_number labels a ≡ last_at 0 0 labels (highest_address (labels_up_to a labels))
number_is labels zero =
    let low = highest-low 0 labels in
    let top : highest_address (labels_up_to 0 labels) ≡ 0 = omega (arith, low) in
    or_zero (last_at 0 0 labels 0) ∙ ap (λ h. last_at 0 0 labels h) (sym top)
number_is labels (suc a) = elim (cases_Bool (list_any (is_at (suc a)) labels)) [
  | inl some ↦
      let own = numbered (suc a) 0 0 labels some in
      let number = own.number in
      let other : (last_at 0 0 labels (suc a) == 0) ≡ false = nonzero (last_at 0 0 labels (suc a)) own.index number in
      cond-false (last_at 0 0 labels (suc a) == 0) (last_below (last_at 0 0 labels) (suc a)) (last_at 0 0 labels (suc a)) other
      ∙ ap (λ h. last_at 0 0 labels h) (sym (highest-at (suc a) labels some))
  | inr none ↦
      let zero_there : last_at 0 0 labels (suc a) ≡ 0 = no_number (suc a) 0 0 labels none in
      let test : (last_at 0 0 labels (suc a) == 0) ≡ true = eq-eqb (last_at 0 0 labels (suc a)) 0 zero_there in
      cond-true (last_at 0 0 labels (suc a) == 0) (last_below (last_at 0 0 labels) (suc a)) (last_at 0 0 labels (suc a)) test
      ∙ number_is labels a ∙ ap (λ ls. last_at 0 0 labels (highest_address ls)) (sym (up_to-next a labels none))
]

-- an address with the number 0 has no nearest label
pub none_near : (labels : List Label) (a : ℕ) → nearest_number labels a ≡ 0 → label_up_to labels a ≡ None
none_near labels a e =
    let h = highest_address (labels_up_to a labels) in
    elim (cases_Bool (list_any (is_at h) labels)) [
      | inl some ↦ let own = numbered h 0 0 labels some in let number = own.number in let is = number_is labels a in absurd (omega (arith, e, number, is))
      | inr none ↦ no_label h labels none
    ]

-- another number is that of the nearest label
pub one_near : (labels : List Label) (a n : ℕ) → n ≡ nearest_number labels a → n ≢ 0 → slice_get labels (n - 1) ≡ label_up_to labels a
one_near labels a n e other =
    let h = highest_address (labels_up_to a labels) in
    elim (cases_Bool (list_any (is_at h) labels)) [
      | inl some ↦
          let own = numbered h 0 0 labels some in
          let number = own.number in
          let is = number_is labels a in
          let at : n - 1 ≡ own.index = omega (arith, e, number, is) in
          ap (slice_get labels) at ∙ own.got ∙ sym own.last
      | inr none ↦ let is = number_is labels a in let zero_there = no_number h 0 0 labels none in absurd (other (e ∙ is ∙ zero_there))
    ]

-- ---- a label at just this address

some_same : {X : Type 0} {x y : X} → Some x ≡ Some y → x ≡ y
some_same e = cc

finds : {X : Type 0} (p : X → Bool) (xs : List X) (x : X) → find p xs ≡ Some x → p x ≡ true
finds p [] x e = absurd (cc)
finds p (y ∷ ys) x e = elim (cases_Bool (p y)) [
  | inl holds ↦ let first : Some y ≡ Some x = sym (cond-true (p y) (Some y) (find p ys) holds) ∙ e in subst (λ z. p z ≡ true) (some_same first) holds
  | inr fails ↦ finds p ys x (sym (cond-false (p y) (Some y) (find p ys) fails) ∙ e)
]

-- the nearest label is at the address
pub own_label : (labels : List Label) (a : ℕ) (label : Label) → label_up_to labels a ≡ Some label → label.0 ≡ a → last_label_at a labels ≡ Some label
own_label labels a label near at =
    let h = highest_address (labels_up_to a labels) in
    let there : label.0 ≡ h = eqb-true label.0 h (finds (is_at h) (reverse labels) label near) in
    subst (λ k. last_label_at k labels ≡ Some label) (sym there ∙ at) near

-- the nearest label is before the address
pub other_label : (labels : List Label) (a : ℕ) (label : Label) → label_up_to labels a ≡ Some label → label.0 ≢ a → last_label_at a labels ≡ None
other_label labels a label near apart = elim (cases_Bool (list_any (is_at a) labels)) [
  | inl some ↦
      let h = highest_address (labels_up_to a labels) in
      let there : label.0 ≡ h = eqb-true label.0 h (finds (is_at h) (reverse labels) label near) in
      absurd (apart (there ∙ highest-at a labels some))
  | inr none ↦ no_label a labels none
]

pub without_label : (labels : List Label) (a : ℕ) → label_up_to labels a ≡ None → last_label_at a labels ≡ None
without_label labels a near = elim (cases_Bool (list_any (is_at a) labels)) [
  | inl some ↦ ap (λ h. last_label_at h labels) (sym (highest-at a labels some)) ∙ near
  | inr none ↦ no_label a labels none
]

-- ---- what the code reads of its table and of its labels

-- a table of labels that are not none has their numbers
pub are_numbers : {X : Type 0} (f : X → Label) (xs : List X) (numbers : List ℕ) → AreNumbersIfAny (map f xs) numbers → (length xs == 0) ≡ false → AreNumbers (map f xs) numbers
are_numbers f [] numbers are some = absurd (cc)
are_numbers f (x ∷ xs) numbers are some = are

pub read_number : (labels : List Label) (numbers : List ℕ) (address n : ℕ) → AreNumbers labels numbers → address < 0x10000 → n ≡ get_or numbers address n → n ≡ nearest_number labels address
read_number labels numbers address n are below is =
    let size = are.size in
    is ∙ get_or_default numbers address n 0 (omega (arith, below, size)) ∙ are.each address below

at_place : {X : Type 0} (xs : List X) (k : ℕ) (x : X) → k < length xs → x ≡ get_or xs k x → slice_get xs k ≡ Some x
at_place [] k x below there = absurd (omega (arith, below))
at_place (y ∷ ys) zero x below there = ap (λ z. Some z) (sym there)
at_place (y ∷ ys) (suc k) x below there = at_place ys k x (omega (arith, below)) there

-- what `get` answers of a list, by a function of its elements
pub got : {X Y : Type 0} (f : X → Y) (xs : List X) (k : ℕ) (r : Option (Bor X)) → is_some r ≡ nat_lt k (length xs) → IfSome r (λ x. x.now ≡ get_or xs k x.now)
    → option_map (λ x. f x.now) r ≡ slice_get (map f xs) k
got f xs k None within at = let past : length xs ≤ k = ltb-false k (length xs) (sym within) in sym (slice_get-map f xs k ∙ ap (option_map f) (slice_get_past xs k past))
got f xs k (Some x) within at = sym (slice_get-map f xs k ∙ ap (option_map f) (at_place xs k x.now (ltb-true k (length xs) (sym within)) at))
