-- The greatest number among the elements that pass a test.
use Rattle.std.proofs.Common.{◌≡◌, ◌<◌, ◌≤◌, ◌==◌, ℕ, suc, List, [], ◌∷◌, Bool, true, false, cond, ◌||◌, Some, None, IfSome, map, length, get_or, refl, ap, ◌∙◌, sym, arith, eqb-true, lt-ltb, if◌then◌else◌}
use Rattle.std.specs.Prelude.{max, fold, filter}
use Rattle.std.specs.List.{list_any, reduce}
use Rattle.std.proofs.Math.Nat.{zero-max}
use Rattle.cpm_image.specs.declared.directory.entry.TheConstants.{USERS}
use Rattle.cpm_image.specs.Directory.Types.{Entry}
use Rattle.cpm_image.specs.Directory.Entries.{at, blank, is_of, record_end}
use Rattle.cpm_image.specs.Directory.Rules.{IsGood, IsSound}
use Rattle.cpm_image.specs.Kind.{file_records}
use Rattle.cpm_image.specs.declared.kind.DiskKind.{DiskKind}
use Rattle.cpm_image.specs.declared.kind.DiskKind.TheVariants.{EightInch, Megabyte}
use Rattle.cpm_image.specs.Directory.Searches.{is_file, size}
use Rattle.cpm_image.proofs.Names.{both_true}

pub reduce-max : (xs : List ℕ) → reduce max xs ≡ cond (list_any (λ x. true) xs) (Some (fold max 0 xs)) None
reduce-max [] = refl
reduce-max (x ∷ xs) = ap (λ a. Some (fold max a xs)) (sym (zero-max x))

-- whether an element passes can be seen from the numbers of those that do
pub list_any-map-filter : {X : Type 0} (p : X → Bool) (f : X → ℕ) (xs : List X) → list_any (λ x. true) (map f (filter p xs)) ≡ list_any p xs
list_any-map-filter p f [] = refl
list_any-map-filter p f (x ∷ xs) = elim (p x) as (λ b. list_any (λ x. true) (map f (cond b (x ∷ filter p xs) (filter p xs))) ≡ (b || list_any p xs)) [ true ↦ refl | false ↦ list_any-map-filter p f xs ]

pub reduce-filter : {X : Type 0} (p : X → Bool) (f : X → ℕ) (xs : List X) → reduce max (map f (filter p xs)) ≡ cond (list_any p xs) (Some (fold max 0 (map f (filter p xs)))) None
reduce-filter p f xs = reduce-max (map f (filter p xs)) ∙ ap (λ b. cond b (Some (fold max 0 (map f (filter p xs)))) None) (list_any-map-filter p f xs)

-- the greatest of numbers that are at most n is at most n
most_by : {X : Type 0} (p : X → Bool) (f : X → ℕ) (x : X) (xs : List X) (a n : ℕ) → a ≤ n → (b : Bool) → (b ≡ true → f x ≤ n) → ((c : ℕ) → c ≤ n → fold max c (map f (filter p xs)) ≤ n)
    → fold max a (map f (cond b (x ∷ filter p xs) (filter p xs))) ≤ n
most_by p f x xs a n start true small rest = rest (max a (f x)) (let h = small refl in omega arith)
most_by p f x xs a n start false small rest = rest a start

most : {X : Type 0} (p : X → Bool) (f : X → ℕ) (xs : List X) (d : X) (a n : ℕ) → a ≤ n → ((k : ℕ) → k < length xs → p (get_or xs k d) ≡ true → f (get_or xs k d) ≤ n) → fold max a (map f (filter p xs)) ≤ n
most p f [] d a n start each = start
most p f (x ∷ xs) d a n start each = most_by p f x xs a n start (p x) (λ is. each 0 (omega arith) is) (λ c h. most p f xs d c n h (λ k below is. each (suc k) (omega arith) is))

-- the records up to the end of an extent are not more than a file can have
counted_below : (kind : DiskKind) (e : Entry) → IsGood kind e → record_end e ≤ file_records kind
counted_below EightInch e good = omega (arith, good.0, good.1, good.2)
counted_below Megabyte e good = omega (arith, good.0, good.1, good.2)

pub size_most : (kind : DiskKind) (user : ℕ) (name : List ℕ) (entries : List Entry) → user < USERS → IsSound kind entries → IfSome (size user name entries) (λ n. n ≤ file_records kind)
size_most kind user name entries low sound = elim (is_file user name entries) as (λ b. IfSome (if b then Some (fold max 0 (map record_end (filter (is_of user name) entries))) else None) (λ n. n ≤ file_records kind)) [
  | true ↦ most (is_of user name) record_end entries blank 0 (file_records kind) (omega arith) (λ k below of.
      let user_is = eqb-true (at entries k).user user (both_true ((at entries k).user == user) _ of).0 in
      let good = sound.good k (lt-ltb (at entries k).user 32 (omega arith)) in
      counted_below kind (at entries k) good)
  | false ↦ tt
]
