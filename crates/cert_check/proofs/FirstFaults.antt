-- The first error of an order and its verdict.
use Rattle.std.proofs.Common.{◌≡◌, ℕ, zero, suc, ◌+◌, ◌-◌, ◌<◌, ◌≤◌, true, false, List, [], ◌∷◌, ◌++◌, length, map, Err, refl, ap, sym, subst, ◌∙◌, arith, inl, inr, take, slice_index}
use Rattle.std.specs.List.{AllByRecursion, range_with_len}
use Rattle.std.proofs.lemmas.Bool.{cases_lt, false≢true}
use Rattle.std.proofs.lemmas.List.{take-take, get_or-take, length-take-le}
use Rattle.cert_check.specs.declared.shape.Statement.{Statement}
use Rattle.cert_check.specs.declared.cert.Verdict.{Verdict}
use Rattle.cert_check.specs.declared.cert.Verdict.TheVariants.{Best, Range, TooLarge}
use Rattle.cert_check.specs.Choice.{Choice, IsAnyJump, Fits, IsValid}
use Rattle.cert_check.specs.Forcing.{after, Misses, IsForcing}
use Rattle.cert_check.specs.Accepts.{IsVerdictOf}
use Rattle.cert_check.specs.Types.{CheckFault}
use Rattle.cert_check.specs.declared.fault.CheckFault.TheVariants.{NotForced, NotAJump, Repeated, StillShort, WrongTotal, NotOutOfRange}
use Rattle.cert_check.specs.Faults.{IsStillShort, HasCheckFault, line_faults, verdict_faults, faults, FirstOf}
use Rattle.cert_check.specs.Private.Following.{FailsAt, IsJudged}

-- none of these is true
abbrev pub NoneOf : (CheckFault → Type 0) → List CheckFault → Type 0
NoneOf IsSo fs = AllByRecursion (λ f. ¬ IsSo f) fs

pub first_one : (P : CheckFault → Type 0) (fs : List CheckFault) (f g : CheckFault) → FirstOf P fs f → FirstOf P fs g → f ≡ g
first_one P [] f g a b = absurd a
first_one P (x ∷ fs) f g (inl a) (inl b) = a.1 ∙ sym b.1
first_one P (x ∷ fs) f g (inl a) (inr b) = absurd (b.0 a.0)
first_one P (x ∷ fs) f g (inr a) (inl b) = absurd (a.0 b.0)
first_one P (x ∷ fs) f g (inr a) (inr b) = first_one P fs f g a.1 b.1

pub first_none : (P : CheckFault → Type 0) (fs : List CheckFault) (f : CheckFault) → NoneOf P fs → FirstOf P fs f → ⊥
first_none P [] f none a = a
first_none P (x ∷ fs) f none (inl a) = none.0 a.0
first_none P (x ∷ fs) f none (inr a) = first_none P fs f none.1 a.1

pub first_front : (P : CheckFault → Type 0) (fs gs : List CheckFault) (f : CheckFault) → FirstOf P fs f → FirstOf P (fs ++ gs) f
first_front P [] gs f a = absurd a
first_front P (x ∷ fs) gs f (inl a) = inl a
first_front P (x ∷ fs) gs f (inr a) = inr (a.0, first_front P fs gs f a.1)

pub first_back : (P : CheckFault → Type 0) (fs gs : List CheckFault) (f : CheckFault) → NoneOf P fs → FirstOf P gs f → FirstOf P (fs ++ gs) f
first_back P [] gs f none a = a
first_back P (x ∷ fs) gs f none a = inr (none.0, first_back P fs gs f none.1 a)

none_append : (P : CheckFault → Type 0) (fs gs : List CheckFault) → NoneOf P fs → NoneOf P gs → NoneOf P (fs ++ gs)
none_append P [] gs a b = b
none_append P (x ∷ fs) gs a b = (a.0, none_append P fs gs a.1 b)

-- The lines of the members of an order.

-- the member that a line names, and those before it
at_line : (Q : ℕ → Type 0) (line i : ℕ) → line ≡ i + 2 → Q i → Q (line - 2)
at_line Q line i e q = let same : i ≡ line - 2 = omega arith in subst Q same q

module _ (shape : List Statement) (order : List ℕ) (verdict : Verdict) where
  no_jump_fault : (line i : ℕ) → line ≡ i + 2 → Misses (after (take i order)) shape (slice_index order i) → ¬ HasCheckFault shape order verdict (NotAJump line)
  no_jump_fault line i e m none = at_line (λ j. ¬ IsAnyJump shape (slice_index order j) → ⊥) line i e (λ no. no (m.target, m.jump)) none

  no_repeat : (line i : ℕ) → line ≡ i + 2 → Misses (after (take i order)) shape (slice_index order i) → ¬ HasCheckFault shape order verdict (Repeated line)
  no_repeat line i e m again = at_line (λ j. after (take j order) (slice_index order j) ≡ true → ⊥) line i e (λ t. false≢true (sym m.short ∙ t)) again

  no_fit : (line i : ℕ) → line ≡ i + 2 → Misses (after (take i order)) shape (slice_index order i) → ¬ HasCheckFault shape order verdict (NotForced line)
  no_fit line i e m fits = at_line (λ j. Fits (after (take j order)) shape (slice_index order j) → ⊥) line i e (λ f. m.misses (f m.target m.jump)) fits

  -- if each of these members misses its target, their lines have no error
  good_lines : (j : ℕ) (ks : List ℕ) (line : ℕ) → line ≡ j + 2 → ((i : ℕ) → j ≤ i → i < j + length ks → Misses (after (take i order)) shape (slice_index order i)) → NoneOf (HasCheckFault shape order verdict) (line_faults line ks)
  good_lines j [] line e all = tt
  good_lines j (k ∷ ks) line e all =
      let here = all j (omega arith) (omega arith) in
      (no_jump_fault line j e here, (no_repeat line j e here, (no_fit line j e here, good_lines (j + 1) ks (line + 1) (omega arith) (λ i low high. all i (omega arith) (omega arith)))))

  -- the error of member i is the first one if each member before it misses its target
  first_line : (j : ℕ) (ks : List ℕ) (line i : ℕ) (f : CheckFault) → line ≡ j + 2 → j ≤ i → i < j + length ks → ((m : ℕ) → j ≤ m → m < i → Misses (after (take m order)) shape (slice_index order m)) → FirstOf (HasCheckFault shape order verdict) (NotAJump (i + 2) ∷ Repeated (i + 2) ∷ NotForced (i + 2) ∷ []) f → FirstOf (HasCheckFault shape order verdict) (line_faults line ks) f
  first_line j [] line i f e low high before here = absurd (omega arith)
  first_line j (k ∷ ks) line i f e low high before here =
      elim (cases_lt j i) [
        | inl lt ↦ (
            let m = before j (omega arith) lt in
            inr (no_jump_fault line j e m, inr (no_repeat line j e m, inr (no_fit line j e m, first_line (j + 1) ks (line + 1) i f (omega arith) (omega arith) (omega arith) (λ n above below. before n (omega arith) below) here))))
        | inr ge ↦ (
            let same : i + 2 ≡ line = omega arith in
            first_front (HasCheckFault shape order verdict) (NotAJump line ∷ Repeated line ∷ NotForced line ∷ []) (line_faults (line + 1) ks) f (subst (λ l. FirstOf (HasCheckFault shape order verdict) (NotAJump l ∷ Repeated l ∷ NotForced l ∷ []) f) same here))
      ]

  -- what a forcing front of the order says about each of its members also holds of them in the whole order
  forced_so_far : (i : ℕ) → i ≤ length order → IsForcing shape (take i order) → (m : ℕ) → m < i → Misses (after (take m order)) shape (slice_index order m)
  forced_so_far i le forcing m lt =
      let here = forcing m (omega (arith, length-take-le i order le)) in
      subst (λ k. Misses (after (take m order)) shape k) (get_or-take i order m 0 lt) (subst (λ before. Misses (after before) shape (slice_index (take i order) m)) (take-take m i order (omega arith)) here)

  -- A wrong line is the first error.
  wrong_line : (line i : ℕ) (f : CheckFault) (tail : List CheckFault) → line ≡ i + 2 → i < length order → IsForcing shape (take i order) → FirstOf (HasCheckFault shape order verdict) (NotAJump line ∷ Repeated line ∷ NotForced line ∷ []) f → FirstOf (HasCheckFault shape order verdict) (line_faults 2 order ++ tail) f
  wrong_line line i f tail e within forcing here =
      first_front (HasCheckFault shape order verdict) (line_faults 2 order) tail f
      (first_line 0 order 2 i f refl (omega arith) (omega arith) (λ m low lt. forced_so_far i (omega arith) forcing m lt)
      (subst (λ l. FirstOf (HasCheckFault shape order verdict) (NotAJump l ∷ Repeated l ∷ NotForced l ∷ []) f) e here))

  pub not_a_jump : (line : ℕ) (tail : List CheckFault) → FailsAt (λ before k. ¬ IsAnyJump shape k) shape order line → FirstOf (HasCheckFault shape order verdict) (line_faults 2 order ++ tail) (NotAJump line)
  not_a_jump line tail w =
      wrong_line line w.index (NotAJump line) tail w.number w.within w.forcing
      (inl (at_line (λ j. ¬ IsAnyJump shape (slice_index order j)) line w.index w.number w.wrong, refl))

  pub repeated : (line : ℕ) (tail : List CheckFault) → FailsAt (λ before k. IsAnyJump shape k × (after before k ≡ true)) shape order line → FirstOf (HasCheckFault shape order verdict) (line_faults 2 order ++ tail) (Repeated line)
  repeated line tail w =
      wrong_line line w.index (Repeated line) tail w.number w.within w.forcing
      (inr (
        at_line (λ j. ¬ IsAnyJump shape (slice_index order j) → ⊥) line w.index w.number (λ none. none w.wrong.0),
        inl (at_line (λ j. after (take j order) (slice_index order j) ≡ true) line w.index w.number w.wrong.1, refl),
      ))

  pub not_forced : (line : ℕ) (tail : List CheckFault) → FailsAt (λ before k. IsAnyJump shape k × (after before k ≡ false) × Fits (after before) shape k) shape order line → FirstOf (HasCheckFault shape order verdict) (line_faults 2 order ++ tail) (NotForced line)
  not_forced line tail w =
      wrong_line line w.index (NotForced line) tail w.number w.within w.forcing
      (inr (
        at_line (λ j. ¬ IsAnyJump shape (slice_index order j) → ⊥) line w.index w.number (λ none. none w.wrong.0),
        inr (
          at_line (λ j. after (take j order) (slice_index order j) ≡ true → ⊥) line w.index w.number (λ again. false≢true (sym w.wrong.1 ∙ again)),
          inl (at_line (λ j. Fits (after (take j order)) shape (slice_index order j)) line w.index w.number w.wrong.2, refl),
        ),
      ))

  -- The errors of the verdict.

  none_short : (a n : ℕ) → ((j : ℕ) → ¬ IsStillShort (after order) shape j) → NoneOf (HasCheckFault shape order verdict) (map StillShort (range_with_len a n))
  none_short a zero none = tt
  none_short a (suc n) none = (none a, none_short (a + 1) n none)

  first_short : (a n k : ℕ) → a ≤ k → k < a + n → ((j : ℕ) → j < k → ¬ IsStillShort (after order) shape j) → IsStillShort (after order) shape k → FirstOf (HasCheckFault shape order verdict) (map StillShort (range_with_len a n)) (StillShort k)
  first_short a zero k low high below here = absurd (omega arith)
  first_short a (suc n) k low high below here =
      elim (cases_lt a k) [
        | inl lt ↦ inr (below a lt, first_short (a + 1) n k (omega arith) (omega arith) below here)
        | inr ge ↦ (let same : k ≡ a = omega arith in inl (subst (IsStillShort (after order) shape) same here, ap StillShort same))
      ]

  all_lines : IsForcing shape order → NoneOf (HasCheckFault shape order verdict) (line_faults 2 order)
  all_lines forcing = good_lines 0 order 2 refl (λ i low lt. forcing i (omega arith))

-- if the order is forcing, an error of the verdict is the first one
pub judged_fault : (shape : List Statement) (order : List ℕ) (verdict : Verdict) (f : CheckFault) → IsForcing shape order → IsJudged (after order) shape verdict (Err f) → FirstOf (HasCheckFault shape order verdict) (faults shape order verdict) f
judged_fault shape order (Best n) (StillShort k) forcing judged =
    first_back (HasCheckFault shape order (Best n)) (line_faults 2 order) (verdict_faults (length shape) (Best n)) (StillShort k) (all_lines shape order (Best n) forcing)
    (first_front (HasCheckFault shape order (Best n)) (map StillShort (range_with_len 0 (length shape))) (WrongTotal ∷ []) (StillShort k)
    (first_short shape order (Best n) 0 (length shape) k (omega arith) (omega (arith, judged.1)) judged.2 judged.0))
judged_fault shape order (Best n) WrongTotal forcing judged =
    first_back (HasCheckFault shape order (Best n)) (line_faults 2 order) (verdict_faults (length shape) (Best n)) WrongTotal (all_lines shape order (Best n) forcing)
    (first_back (HasCheckFault shape order (Best n)) (map StillShort (range_with_len 0 (length shape))) (WrongTotal ∷ []) WrongTotal (none_short shape order (Best n) 0 (length shape) judged.0) (inl (judged.1, refl)))
judged_fault shape order (Range k) (NotOutOfRange j) forcing judged =
    first_back (HasCheckFault shape order (Range k)) (line_faults 2 order) (verdict_faults (length shape) (Range k)) (NotOutOfRange j) (all_lines shape order (Range k) forcing) (inl (judged.1, ap NotOutOfRange judged.0))
judged_fault shape order (TooLarge n) WrongTotal forcing judged =
    first_back (HasCheckFault shape order (TooLarge n)) (line_faults 2 order) (verdict_faults (length shape) (TooLarge n)) WrongTotal (all_lines shape order (TooLarge n) forcing) (inl (judged, refl))
judged_fault shape order verdict f forcing judged = absurd judged

near_or_short : (c : Choice) (shape : List Statement) → IsValid c shape → (j : ℕ) → ¬ IsStillShort c shape j
near_or_short c shape valid j still = elim (still.jump) [
  | inl short ↦ still.misses (valid.shorts j still.target short)
  | inr jump ↦ still.misses (valid.settled j still.target jump.0 jump.1)
]

shown_none : (shape : List Statement) (order : List ℕ) (verdict : Verdict) → IsVerdictOf (after order) shape verdict → NoneOf (HasCheckFault shape order verdict) (verdict_faults (length shape) verdict)
shown_none shape order (Best n) shown =
    none_append (HasCheckFault shape order (Best n)) (map StillShort (range_with_len 0 (length shape))) (WrongTotal ∷ []) (none_short shape order (Best n) 0 (length shape) (near_or_short (after order) shape shown.0)) (λ wrong. wrong (shown.1, shown.0.fits), tt)
shown_none shape order (Range k) shown = (λ wrong. wrong shown, tt)
shown_none shape order (TooLarge n) shown = let (same, above) = shown in (λ wrong. wrong (same, omega arith), tt)

-- a forcing order and a verdict that is shown have no error
pub none_wrong : (shape : List Statement) (order : List ℕ) (verdict : Verdict) → IsForcing shape order → IsVerdictOf (after order) shape verdict → NoneOf (HasCheckFault shape order verdict) (faults shape order verdict)
none_wrong shape order verdict forcing shown =
    none_append (HasCheckFault shape order verdict) (line_faults 2 order) (verdict_faults (length shape) verdict) (all_lines shape order verdict forcing) (shown_none shape order verdict shown)
