-- There is only one list of the entries of a directory that break a rule.
use Rattle.std.proofs.Common.{◌≡◌, ◌⊎◌, ◌<◌, ◌≤◌, ◌↔◌, ℕ, zero, suc, List, [], ◌∷◌, true, take, get_or, refl, arith, sym, ◌∙◌, ap, subst, inl, inr}
use Rattle.std.proofs.lemmas.List.Elements.{All-head, All-tail}
use Rattle.std.specs.List.{All, AllPairs, Any}
use Rattle.cpm_image.specs.declared.kind.DiskKind.{DiskKind}
use Rattle.cpm_image.specs.Directory.Types.{Broken, DiskFault, Entry}
use Rattle.cpm_image.specs.Directory.Entries.{at, is_extent}
use Rattle.cpm_image.specs.Directory.Rules.{AreBroken, IsBroken, IsFaultOf, IsFirstFault, IsSound, KeepsRules}
use Rattle.cpm_image.proofs.FirstFault.{sound}
use Rattle.cpm_image.proofs.Judgement.{no_fault, one_fault, sound_or_not}

-- the list of the broken entries whose numbers are not below `low`
record AreBrokenFrom (kind : DiskKind) (entries : List Entry) (low : ℕ) (broken : List Broken) : Type 0 where
  each : All (IsBroken kind entries) broken
  from : All (λ b. low ≤ b.number) broken
  every : (k : ℕ) → low ≤ k → is_extent (at entries k) ≡ true → KeepsRules kind (take k entries) (at entries k) ⊎ Any (λ b. b.number ≡ k) broken
  ordered : AllPairs (λ a b. a.number < b.number) broken

whole : (kind : DiskKind) (entries : List Entry) (broken : List Broken) → AreBroken kind entries broken → AreBrokenFrom kind entries 0 broken
whole kind entries broken are = record {
  each = are.each;
  from = λ k d h. omega arith;
  every = λ k _ is. are.every k is;
  ordered = are.ordered;
}

-- a number in a list is that of its first entry, or greater
first_or_later : (b : Broken) (rest : List Broken) (k : ℕ) → AllPairs (λ x y. x.number < y.number) (b ∷ rest) → Any (λ x. x.number ≡ k) (b ∷ rest) → (b.number ≡ k) ⊎ ((b.number < k) × Any (λ x. x.number ≡ k) rest)
first_or_later b rest k ordered (zero, x, low, is, holds) = inl (ap (λ y. y.number) is ∙ holds)
first_or_later b rest k ordered (suc i, x, low, is, holds) = inr (
  (let lower = ordered 0 (suc i) x (omega arith) low in let number : (get_or rest i x).number ≡ k = ap (λ y. y.number) is ∙ holds in omega arith),
  (i, x, omega (arith, low), is, holds),
)

-- the rest of such a list, above its first number
tail : (kind : DiskKind) (entries : List Entry) (low : ℕ) (b : Broken) (rest : List Broken) → AreBrokenFrom kind entries low (b ∷ rest) → AreBrokenFrom kind entries (suc b.number) rest
tail kind entries low b rest are = record {
  each = All-tail (IsBroken kind entries) b rest are.each;
  from = λ k d h. (let lower = are.ordered 0 (suc k) d (omega arith) (omega arith) in omega arith);
  every = λ k above is. (let start = All-head (λ x. low ≤ x.number) b rest are.from in elim (are.every k (omega arith) is) [
    | inl keeps ↦ inl keeps
    | inr listed ↦ elim (first_or_later b rest k are.ordered listed) [
      | inl here ↦ absurd (omega arith)
      | inr later ↦ inr later.1
    ]
  ]);
  ordered = λ i j d lt h. are.ordered (suc i) (suc j) d (omega arith) (omega arith);
}

-- an entry that is listed breaks a rule
breaks : (kind : DiskKind) (entries : List Entry) (b : Broken) → IsBroken kind entries b → KeepsRules kind (take b.number entries) (at entries b.number) → ⊥
breaks kind entries b is keeps = no_fault kind (take b.number entries) (at entries b.number) b.fault keeps (subst (λ e. IsFaultOf kind (take b.number entries) e b.fault) is.entry is.fault_of)

-- so it is in each list
listed_too : (kind : DiskKind) (entries : List Entry) (low : ℕ) (b : Broken) (broken : List Broken) → IsBroken kind entries b → low ≤ b.number → AreBrokenFrom kind entries low broken → Any (λ x. x.number ≡ b.number) broken
listed_too kind entries low b broken is above are = elim (are.every b.number above (subst (λ e. is_extent e ≡ true) is.entry is.extent)) [
  | inl keeps ↦ absurd (breaks kind entries b is keeps)
  | inr listed ↦ listed
]

nothing : (P : Broken → Type 0) → Any P [] → ⊥
nothing P (k, x, low, is, holds) = omega (arith, low)

abbrev made : ℕ → Entry → DiskFault → Broken
made number entry fault = record { number = number; entry = entry; fault = fault }

-- two broken entries with the same number are equal
same_broken : (kind : DiskKind) (entries : List Entry) (a b : Broken) → IsBroken kind entries a → IsBroken kind entries b → a.number ≡ b.number → a ≡ b
same_broken kind entries a b is_a is_b same =
    let entry_is : a.entry ≡ b.entry = is_a.entry ∙ ap (at entries) same ∙ sym is_b.entry in
    let fault_is : a.fault ≡ b.fault = one_fault kind (take a.number entries) a.entry a.fault b.fault is_a.fault_of
    (subst (λ k. IsFaultOf kind (take k entries) a.entry b.fault) (sym same) (subst (λ e. IsFaultOf kind (take b.number entries) e b.fault) (sym entry_is) is_b.fault_of)) in
    ap (λ n. made n a.entry a.fault) same ∙ ap (λ e. made b.number e a.fault) entry_is ∙ ap (made b.number b.entry) fault_is

-- the first numbers of two lists are equal
same_first : (kind : DiskKind) (entries : List Entry) (low : ℕ) (a b : Broken) (xs ys : List Broken) → AreBrokenFrom kind entries low (a ∷ xs) → AreBrokenFrom kind entries low (b ∷ ys) → b.number ≤ a.number
same_first kind entries low a b xs ys are_a are_b =
    let is = All-head (IsBroken kind entries) a xs are_a.each in
    let above = All-head (λ x. low ≤ x.number) a xs are_a.from in
    elim (first_or_later b ys a.number are_b.ordered (listed_too kind entries low a (b ∷ ys) is above are_b)) [
      | inl same ↦ omega arith
      | inr later ↦ omega (arith, later.0)
    ]

one_from : (kind : DiskKind) (entries : List Entry) (low : ℕ) (xs ys : List Broken) → AreBrokenFrom kind entries low xs → AreBrokenFrom kind entries low ys → xs ≡ ys
one_from kind entries low [] [] are_a are_b = refl
one_from kind entries low [] (b ∷ ys) are_a are_b = absurd (nothing (λ x. x.number ≡ b.number) (listed_too kind entries low b [] (All-head (IsBroken kind entries) b ys are_b.each) (All-head (λ x. low ≤ x.number) b ys are_b.from) are_a))
one_from kind entries low (a ∷ xs) [] are_a are_b = absurd (nothing (λ x. x.number ≡ a.number) (listed_too kind entries low a [] (All-head (IsBroken kind entries) a xs are_a.each) (All-head (λ x. low ≤ x.number) a xs are_a.from) are_b))
one_from kind entries low (a ∷ xs) (b ∷ ys) are_a are_b =
    let le = same_first kind entries low a b xs ys are_a are_b in
    let ge = same_first kind entries low b a ys xs are_b are_a in
    let number : a.number ≡ b.number = omega arith in
    let first_is : a ≡ b = same_broken kind entries a b (All-head (IsBroken kind entries) a xs are_a.each) (All-head (IsBroken kind entries) b ys are_b.each) number in
    let rest : xs ≡ ys = one_from kind entries (suc a.number) xs ys (tail kind entries low a xs are_a) (subst (λ n. AreBrokenFrom kind entries (suc n) ys) (sym number) (tail kind entries low b ys are_b)) in
    cc

pub one : (kind : DiskKind) (entries : List Entry) (a b : List Broken) → AreBroken kind entries a → AreBroken kind entries b → a ≡ b
one kind entries a b are_a are_b = one_from kind entries 0 a b (whole kind entries a are_a) (whole kind entries b are_b)

pub first : (kind : DiskKind) (entries : List Entry) (broken : Broken) (rest : List Broken) → AreBroken kind entries (broken ∷ rest) → IsFirstFault kind entries broken.fault
first kind entries b rest are =
    let is = All-head (IsBroken kind entries) b rest are.each in
    record {
      number = b.number;
      within = is.within;
      extent = subst (λ e. is_extent e ≡ true) is.entry is.extent;
      fault_of = subst (λ e. IsFaultOf kind (take b.number entries) e b.fault) is.entry is.fault_of;
      before = λ k lt extent. elim (are.every k extent) [
        | inl keeps ↦ keeps
        | inr listed ↦ elim (first_or_later b rest k are.ordered listed) [
          | inl here ↦ absurd (omega arith)
          | inr later ↦ absurd (omega (arith, later.0))
        ]
      ];
    }

none_sound : (kind : DiskKind) (entries : List Entry) → AreBroken kind entries [] → IsSound kind entries
none_sound kind entries are = sound kind entries (λ k _ extent. elim (are.every k extent) [
  | inl keeps ↦ keeps
  | inr listed ↦ absurd (nothing (λ x. x.number ≡ k) listed)
])

sound_none : (kind : DiskKind) (entries : List Entry) (broken : List Broken) → AreBroken kind entries broken → IsSound kind entries → broken ≡ []
sound_none kind entries [] are is_sound = refl
sound_none kind entries (b ∷ rest) are is_sound = absurd (sound_or_not kind entries b.fault is_sound (first kind entries b rest are))

pub none : (kind : DiskKind) (entries : List Entry) (broken : List Broken) → AreBroken kind entries broken → ((broken ≡ []) ↔ IsSound kind entries)
none kind entries broken are = (λ empty. none_sound kind entries (subst (AreBroken kind entries) empty are), λ is_sound. sound_none kind entries broken are is_sound)
