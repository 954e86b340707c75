-- There is only one judgement of a directory.
use Rattle.std.proofs.Common.{◌≡◌, ◌<◌, ℕ, List, true, take, refl, arith, sym, ap, subst, inl, inr, Result, Ok, Err}
use Rattle.cpm_image.specs.declared.kind.DiskKind.{DiskKind}
use Rattle.std.specs.Bool.{⊤}
use Rattle.std.proofs.lemmas.Bool.{cases_order}
use Rattle.std.proofs.lemmas.List.{length-take}
use Rattle.cpm_image.specs.Directory.Types.{Entry, DiskFault}
use Rattle.cpm_image.specs.declared.directory.fault.DiskFault.TheVariants as fault
use Rattle.cpm_image.specs.Directory.Entries.{at, block, is_extent}
use Rattle.cpm_image.specs.Directory.Rules.{AreSameExtent, IsFaultOf, IsFirstFault, IsJudged, IsSound, KeepsRules}
use Rattle.cpm_image.proofs.FirstFault.{at_take}
use Rattle.cpm_image.proofs.Names.{within_extents}

-- an entry that comes before another
comes_before : (entries : List Entry) (j k : ℕ) → is_extent (at (take k entries) j) ≡ true → j < k
comes_before entries j k is = let within = within_extents (take k entries) j is in omega (arith, rw length-take at within)

keeps_of_sound : (kind : DiskKind) (entries : List Entry) → IsSound kind entries → (k : ℕ) → is_extent (at entries k) ≡ true → KeepsRules kind (take k entries) (at entries k)
keeps_of_sound kind entries s k second = (
  s.good k second,
  s.blocks k second,
  (
    λ a b positive same. (s.once k k a b second second positive same).1,
    λ j a b is positive same.
        let lt = comes_before entries j k is in
        let itself = at_take entries j k lt in
        let there : block kind (at entries j) b ≡ block kind (at entries k) a = subst (λ e. block kind e b ≡ block kind (at entries k) a) itself same in
        let equal = (s.once j k b a (subst (λ e. is_extent e ≡ true) itself is) second (omega arith) there).0 in
        omega arith,
  ),
  λ j is same.
      let lt = comes_before entries j k is in
      let itself = at_take entries j k lt in
      let equal = s.named j k (subst (λ e. is_extent e ≡ true) itself is) second (subst (λ e. AreSameExtent e (at entries k)) itself same) in
      omega arith,
)

pub no_fault : (kind : DiskKind) (before : List Entry) (e : Entry) (f : DiskFault) → KeepsRules kind before e → IsFaultOf kind before e f → ⊥
no_fault kind before e fault.BadEntry keeps broken = broken keeps.0
no_fault kind before e fault.BlockRange keeps broken = broken.1 keeps.1
no_fault kind before e fault.BlockTwice keeps broken = broken.2 keeps.2
no_fault kind before e fault.NameTwice keeps broken = broken.3 keeps.3
no_fault kind before e _ keeps broken = broken

pub one_fault : (kind : DiskKind) (before : List Entry) (e : Entry) (f g : DiskFault) → IsFaultOf kind before e f → IsFaultOf kind before e g → f ≡ g
one_fault kind before e fault.BadEntry fault.BadEntry p q = refl
one_fault kind before e fault.BadEntry fault.BlockRange p q = absurd (p q.0)
one_fault kind before e fault.BadEntry fault.BlockTwice p q = absurd (p q.0)
one_fault kind before e fault.BadEntry fault.NameTwice p q = absurd (p q.0)
one_fault kind before e fault.BadEntry _ p q = absurd q
one_fault kind before e fault.BlockRange fault.BadEntry p q = absurd (q p.0)
one_fault kind before e fault.BlockRange fault.BlockRange p q = refl
one_fault kind before e fault.BlockRange fault.BlockTwice p q = absurd (p.1 q.1)
one_fault kind before e fault.BlockRange fault.NameTwice p q = absurd (p.1 q.1)
one_fault kind before e fault.BlockRange _ p q = absurd q
one_fault kind before e fault.BlockTwice fault.BadEntry p q = absurd (q p.0)
one_fault kind before e fault.BlockTwice fault.BlockRange p q = absurd (q.1 p.1)
one_fault kind before e fault.BlockTwice fault.BlockTwice p q = refl
one_fault kind before e fault.BlockTwice fault.NameTwice p q = absurd (p.2 q.2)
one_fault kind before e fault.BlockTwice _ p q = absurd q
one_fault kind before e fault.NameTwice fault.BadEntry p q = absurd (q p.0)
one_fault kind before e fault.NameTwice fault.BlockRange p q = absurd (q.1 p.1)
one_fault kind before e fault.NameTwice fault.BlockTwice p q = absurd (q.2 p.2)
one_fault kind before e fault.NameTwice fault.NameTwice p q = refl
one_fault kind before e fault.NameTwice _ p q = absurd q
one_fault kind before e _ g p q = absurd p

pub sound_or_not : (kind : DiskKind) (entries : List Entry) (f : DiskFault) → IsSound kind entries → IsFirstFault kind entries f → ⊥
sound_or_not kind entries f sound first =
    no_fault kind (take first.number entries) (at entries first.number) f (keeps_of_sound kind entries sound first.number first.extent) first.fault_of

one_first : (kind : DiskKind) (entries : List Entry) (f g : DiskFault) → IsFirstFault kind entries f → IsFirstFault kind entries g → f ≡ g
one_first kind entries f g p q = elim (cases_order p.number q.number) [
  | inl equal ↦ one_fault kind (take p.number entries) (at entries p.number) f g p.fault_of (subst (λ k. IsFaultOf kind (take k entries) (at entries k) g) (sym equal) q.fault_of)
  | inr rest ↦ elim rest [
    | inl lt ↦ absurd (no_fault kind (take p.number entries) (at entries p.number) f (q.before p.number lt p.extent) p.fault_of)
    | inr gt ↦ absurd (no_fault kind (take q.number entries) (at entries q.number) g (p.before q.number gt q.extent) q.fault_of)
  ]
]

pub one_judgement : (kind : DiskKind) (entries : List Entry) (a b : Result ⊤ DiskFault) → IsJudged kind entries a → IsJudged kind entries b → a ≡ b
one_judgement kind entries (Ok x) (Ok y) p q = refl
one_judgement kind entries (Ok x) (Err g) p q = absurd (sound_or_not kind entries g p q)
one_judgement kind entries (Err f) (Ok y) p q = absurd (sound_or_not kind entries f q p)
one_judgement kind entries (Err f) (Err g) p q = ap Err (one_first kind entries f g p q)
