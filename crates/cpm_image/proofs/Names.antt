-- Whether an entry before this one has the same name and extent number.
use Rattle.std.proofs.Common.{◌≡◌, ◌<◌, ◌==◌, nat_lt, subst, ℕ, List, Bool, true, false, ◌&&◌, not, MatchBool, length, refl, inl, inr, sym, ◌∙◌}
use Rattle.std.specs.List.{list_any}
use Rattle.std.proofs.lemmas.Bool.{cases_lt, eq-eqb, eqb-true}
use Rattle.std.proofs.lemmas.List.{get_or_past}
use Rattle.std.proofs.lemmas.Slice.Eq.{bytes_eq-Decides}
use Rattle.cpm_image.specs.Directory.Types.{Entry}
use Rattle.cpm_image.specs.Directory.Letters.{letters}
use Rattle.cpm_image.specs.Directory.Entries.{at, blank, extent_number, is_extent, is_extent_of}
use Rattle.cpm_image.specs.Directory.Rules.{HasOwnName}
use Rattle.cpm_image.proofs.Elements.{where_any, nowhere}

pub both_true : (a b : Bool) → (a && b) ≡ true → (a ≡ true) × (b ≡ true)
both_true true b h = (refl, h)
both_true false b h = absurd (let e : false ≡ true = h in cc)

pub true_both : (a b : Bool) → a ≡ true → b ≡ true → (a && b) ≡ true
true_both a b p q = rw (p) q

-- what it means that an entry is an extent of a file
pub same_extent : (user number : ℕ) (name : List ℕ) (d : Entry) → is_extent_of user name number d ≡ true → (d.user ≡ user) × (letters d.name ≡ name) × ((extent_number d) ≡ number)
same_extent user number name d h =
    let parts = both_true _ ((extent_number d) == number) h in
    let whose = both_true (d.user == user) _ parts.0 in
    (eqb-true _ _ whose.0, (bytes_eq-Decides (letters d.name) name).0 whose.1, eqb-true _ _ parts.1)

pub extent_same : (user number : ℕ) (name : List ℕ) (d : Entry) → d.user ≡ user → letters d.name ≡ name → (extent_number d) ≡ number → is_extent_of user name number d ≡ true
extent_same user number name d u n x = true_both _ _ (true_both _ _ (eq-eqb _ _ u) ((bytes_eq-Decides (letters d.name) name).1 n)) (eq-eqb _ _ x)

-- there is no extent after the last entry
pub within_extents : (entries : List Entry) (k : ℕ) → is_extent (at entries k) ≡ true → k < length entries
within_extents entries k extent = elim (cases_lt k (length entries)) [
  | inl lt ↦ lt
  | inr ge ↦ let past = get_or_past entries k blank ge in let none : false ≡ true = rw past at extent in absurd cc
]

own_name_by : (before : List Entry) (e : Entry) → is_extent e ≡ true → (b : Bool) → list_any (is_extent_of e.user (letters e.name) (extent_number e)) before ≡ b → MatchBool (not b) (HasOwnName before e) (HasOwnName before e → ⊥)
own_name_by before e extent true found = λ own.
    let place = where_any (is_extent_of e.user (letters e.name) (extent_number e)) before blank found in
    let same = same_extent e.user (extent_number e) (letters e.name) (at before place.0) place.2 in
    own place.0 (subst (λ u. nat_lt u 32 ≡ true) (sym same.0) extent) same
own_name_by before e extent false none = λ k is same.
    let miss = nowhere (is_extent_of e.user (letters e.name) (extent_number e)) before blank none k (within_extents before k is) in
    let hit = extent_same e.user (extent_number e) (letters e.name) (at before k) same.0 same.1 same.2 in
    let clash : true ≡ false = sym hit ∙ miss in
    absurd cc

pub own_name : (before : List Entry) (e : Entry) → is_extent e ≡ true → MatchBool (not (list_any (is_extent_of e.user (letters e.name) (extent_number e)) before)) (HasOwnName before e) (HasOwnName before e → ⊥)
own_name before e extent = own_name_by before e extent _ refl
