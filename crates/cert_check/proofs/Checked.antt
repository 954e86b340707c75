-- What two files prove, or their first error; there is only one such answer.
use Rattle.std.proofs.Common.{◌≡◌, ℕ, Bool, List, Result, Ok, Err, refl, ap, sym, subst, ◌∙◌, ◌⊎◌, inl, inr, length}
use Rattle.std.proofs.Math.Path.{fun_ext}
use Rattle.cert_check.specs.declared.shape.Statement.{Statement}
use Rattle.cert_check.specs.declared.cert.Verdict.{Verdict}
use Rattle.cert_check.specs.declared.cert.Verdict.TheVariants.{Best, Range, TooLarge}
use Rattle.cert_check.specs.declared.text_fault.TextFault.{TextFault}
use Rattle.cert_check.specs.declared.text_fault.TextFault.TheVariants.{BadLine}
use Rattle.cert_check.specs.Choice.{chosen}
use Rattle.cert_check.specs.Forcing.{after}
use Rattle.cert_check.specs.Texts.{ReadsSizes, ReadsCert}
use Rattle.cert_check.specs.Accepts.{Accepts}
use Rattle.cert_check.specs.Types.{CheckFault}
use Rattle.cert_check.specs.declared.fault.CheckFault.TheVariants.{BadSizes, BadCertificate, NotForced, NotAJump, Repeated, StillShort, WrongTotal, NotOutOfRange, NoMemory}
use Rattle.cert_check.specs.Faults.{HasCheckFault, verdict_faults, faults, FirstOf}
use Rattle.cert_check.specs.Checks.{HasBadCertificate, HasFirstFault, Checks, IsChecked}
use Rattle.cert_check.specs.Private.Following.{Follows, IsFollowed, IsJudged}
use Rattle.cert_check.proofs.FirstFaults.{first_one, first_none, not_a_jump, repeated, not_forced, judged_fault, none_wrong}

-- the law that a sizes file has one shape
abbrev pub IsOneShape : Type 0
IsOneShape = (text : List ℕ) (a b : Result (List Statement) TextFault) → ReadsSizes text a → ReadsSizes text b → a ≡ b

abbrev pub IsOneCert : Type 0
IsOneCert = (text : List ℕ) (a b : Result (List ℕ × Verdict) TextFault) → ReadsCert text a → ReadsCert text b → a ≡ b

-- the forms that an answer may have
data View (sizes cert : List ℕ) (a : Result Verdict CheckFault) : Type 0 where
  accepted : (v : Verdict) → a ≡ Ok v → Accepts sizes cert v → View sizes cert a
  bad_sizes : (line : ℕ) → a ≡ Err (BadSizes line) → ReadsSizes sizes (Err (BadLine line)) → View sizes cert a
  bad_cert : (line : ℕ) → a ≡ Err (BadCertificate line) → HasBadCertificate sizes cert line → View sizes cert a
  refused : (f : CheckFault) → a ≡ Err f → HasFirstFault sizes cert f → View sizes cert a

view : (sizes cert : List ℕ) (a : Result Verdict CheckFault) → Checks sizes cert a → View sizes cert a
view sizes cert (Ok v) c = accepted v refl c
view sizes cert (Err (BadSizes line)) c = bad_sizes line refl c
view sizes cert (Err (BadCertificate line)) c = bad_cert line refl c
view sizes cert (Err (NotForced line)) c = refused (NotForced line) refl c
view sizes cert (Err (NotAJump line)) c = refused (NotAJump line) refl c
view sizes cert (Err (Repeated line)) c = refused (Repeated line) refl c
view sizes cert (Err (StillShort k)) c = refused (StillShort k) refl c
view sizes cert (Err WrongTotal) c = refused WrongTotal refl c
view sizes cert (Err (NotOutOfRange k)) c = refused (NotOutOfRange k) refl c
view sizes cert (Err NoMemory) c = absurd c

no_ok : {A E : Type 0} (x : A) (e : E) → ◌≡◌ {A = Result A E} (Ok x) (Err e) → ⊥
no_ok x e p = cc

module _ (one_shape : IsOneShape) (one_cert : IsOneCert) (sizes cert : List ℕ) where
  same_shape : (s t : List Statement) → ReadsSizes sizes (Ok s) → ReadsSizes sizes (Ok t) → s ≡ t
  same_shape s t p q = let e = one_shape sizes (Ok s) (Ok t) p q in cc

  same_cert : (o p : List ℕ) (v w : Verdict) → ReadsCert cert (Ok (o, v)) → ReadsCert cert (Ok (p, w)) → (o ≡ p) × (v ≡ w)
  same_cert o p v w a b =
      let e = one_cert cert (Ok (o, v)) (Ok (p, w)) a b in
      let pair : ◌≡◌ {A = List ℕ × Verdict} (o, v) (p, w) = cc in
      (ap (λ (x : List ℕ × Verdict). x.0) pair, ap (λ (x : List ℕ × Verdict). x.1) pair)

  same_first : (f : CheckFault) (h : HasFirstFault sizes cert f) (shape : List Statement) (order : List ℕ) (verdict : Verdict) → ReadsSizes sizes (Ok shape) → ReadsCert cert (Ok (order, verdict)) → FirstOf (HasCheckFault shape order verdict) (faults shape order verdict) f
  same_first f h shape order verdict p q =
      let certs = same_cert h.order order h.verdict verdict h.cert_is q in
      subst (λ v. FirstOf (HasCheckFault shape order v) (faults shape order v) f) certs.1
      (subst (λ o. FirstOf (HasCheckFault shape o h.verdict) (faults shape o h.verdict) f) certs.0
      (subst (λ s. FirstOf (HasCheckFault s h.order h.verdict) (faults s h.order h.verdict) f) (same_shape h.shape shape h.sizes_are p) h.first))

  good_or_refused : (v : Verdict) (f : CheckFault) → Accepts sizes cert v → HasFirstFault sizes cert f → ⊥
  good_or_refused v f a h =
      first_none (HasCheckFault a.shape a.order v) (faults a.shape a.order v) f (none_wrong a.shape a.order v a.forcing a.shown) (same_first f h a.shape a.order v (a.is_shape, a.sizes_are) (a.is_cert, a.cert_is))

  one_view : (a b : Result Verdict CheckFault) → View sizes cert a → View sizes cert b → a ≡ b
  one_view a b (accepted v e p) (accepted w d q) = e ∙ ap Ok (same_cert p.order q.order v w (p.is_cert, p.cert_is) (q.is_cert, q.cert_is)).1 ∙ sym d
  one_view a b (accepted v e p) (bad_sizes n d q) = absurd (no_ok _ _ (one_shape sizes (Ok p.shape) (Err (BadLine n)) (p.is_shape, p.sizes_are) q))
  one_view a b (accepted v e p) (bad_cert n d q) = absurd (no_ok _ _ (one_cert cert (Ok (p.order, v)) (Err (BadLine n)) (p.is_cert, p.cert_is) q.bad))
  one_view a b (accepted v e p) (refused f d q) = absurd (good_or_refused v f p q)
  one_view a b (bad_sizes m e p) (accepted v d q) = absurd (no_ok _ _ (one_shape sizes (Ok q.shape) (Err (BadLine m)) (q.is_shape, q.sizes_are) p))
  one_view a b (bad_sizes m e p) (bad_sizes n d q) =
      let same = one_shape sizes (Err (BadLine m)) (Err (BadLine n)) p q in
      let lines : m ≡ n = cc in
      e ∙ ap (λ l. Err (BadSizes l)) lines ∙ sym d
  one_view a b (bad_sizes m e p) (bad_cert n d q) = absurd (no_ok _ _ (one_shape sizes (Ok q.shape) (Err (BadLine m)) q.sizes_are p))
  one_view a b (bad_sizes m e p) (refused f d q) = absurd (no_ok _ _ (one_shape sizes (Ok q.shape) (Err (BadLine m)) q.sizes_are p))
  one_view a b (bad_cert m e p) (accepted v d q) = absurd (no_ok _ _ (one_cert cert (Ok (q.order, v)) (Err (BadLine m)) (q.is_cert, q.cert_is) p.bad))
  one_view a b (bad_cert m e p) (bad_sizes n d q) = absurd (no_ok _ _ (one_shape sizes (Ok p.shape) (Err (BadLine n)) p.sizes_are q))
  one_view a b (bad_cert m e p) (bad_cert n d q) =
      let same = one_cert cert (Err (BadLine m)) (Err (BadLine n)) p.bad q.bad in
      let lines : m ≡ n = cc in
      e ∙ ap (λ l. Err (BadCertificate l)) lines ∙ sym d
  one_view a b (bad_cert m e p) (refused f d q) = absurd (no_ok _ _ (one_cert cert (Ok (q.order, q.verdict)) (Err (BadLine m)) q.cert_is p.bad))
  one_view a b (refused f e p) (accepted v d q) = absurd (good_or_refused v f q p)
  one_view a b (refused f e p) (bad_sizes n d q) = absurd (no_ok _ _ (one_shape sizes (Ok p.shape) (Err (BadLine n)) p.sizes_are q))
  one_view a b (refused f e p) (bad_cert n d q) = absurd (no_ok _ _ (one_cert cert (Ok (p.order, p.verdict)) (Err (BadLine n)) p.cert_is q.bad))
  one_view a b (refused f e p) (refused g d q) =
      e ∙ ap Err (first_one (HasCheckFault p.shape p.order p.verdict) (faults p.shape p.order p.verdict) f g p.first (same_first g q p.shape p.order p.verdict p.sizes_are p.cert_is)) ∙ sym d

  pub one_answer : (a b : Result Verdict CheckFault) → Checks sizes cert a → Checks sizes cert b → a ≡ b
  one_answer a b p q = one_view a b (view sizes cert a p) (view sizes cert b q)

-- What `check` finds on its way is the answer for the two files.

pub follow_fault : (sizes cert : List ℕ) (shape : List Statement) (order : List ℕ) (verdict : Verdict) (f : CheckFault) → ReadsSizes sizes (Ok shape) → ReadsCert cert (Ok (order, verdict)) → IsFollowed shape order (Err f) → IsChecked sizes cert (Err f)
follow_fault sizes cert shape order verdict (NotAJump line) p q w = record { shape = shape; order = order; verdict = verdict; sizes_are = p; cert_is = q; first = not_a_jump shape order verdict line (verdict_faults (length shape) verdict) w }
follow_fault sizes cert shape order verdict (Repeated line) p q w = record { shape = shape; order = order; verdict = verdict; sizes_are = p; cert_is = q; first = repeated shape order verdict line (verdict_faults (length shape) verdict) w }
follow_fault sizes cert shape order verdict (NotForced line) p q w = record { shape = shape; order = order; verdict = verdict; sizes_are = p; cert_is = q; first = not_forced shape order verdict line (verdict_faults (length shape) verdict) w }
follow_fault sizes cert shape order verdict NoMemory p q w = tt
follow_fault sizes cert shape order verdict (BadSizes line) p q w = absurd w
follow_fault sizes cert shape order verdict (BadCertificate line) p q w = absurd w
follow_fault sizes cert shape order verdict (StillShort k) p q w = absurd w
follow_fault sizes cert shape order verdict WrongTotal p q w = absurd w
follow_fault sizes cert shape order verdict (NotOutOfRange k) p q w = absurd w

-- what is judged with the flags holds of the choice after the order
in_order : (shape : List Statement) (order : List ℕ) (long : List Bool) (verdict : Verdict) (r : Result (Unit {0}) CheckFault) → Follows shape order long → IsJudged (chosen long) shape verdict r → IsJudged (after order) shape verdict r
in_order shape order long verdict r follows judged = let same : chosen long ≡ after order = fun_ext follows.flags in subst (λ c. IsJudged c shape verdict r) same judged

pub judge_fault : (sizes cert : List ℕ) (shape : List Statement) (order : List ℕ) (long : List Bool) (verdict : Verdict) (f : CheckFault) → ReadsSizes sizes (Ok shape) → ReadsCert cert (Ok (order, verdict)) → Follows shape order long → IsJudged (chosen long) shape verdict (Err f) → IsChecked sizes cert (Err f)
judge_fault sizes cert shape order long verdict f p q follows judged =
    let judged_after = in_order shape order long verdict (Err f) follows judged in
    checked f judged_after (judged_fault shape order verdict f follows.forcing judged_after)
  where
    none_of_texts : (v : Verdict) (line : ℕ) → IsJudged (after order) shape v (Err (BadSizes line)) ⊎ IsJudged (after order) shape v (Err (BadCertificate line)) → ⊥
    none_of_texts (Best n) line (inl w) = w
    none_of_texts (Best n) line (inr w) = w
    none_of_texts (Range k) line (inl w) = w
    none_of_texts (Range k) line (inr w) = w
    none_of_texts (TooLarge n) line (inl w) = w
    none_of_texts (TooLarge n) line (inr w) = w

    checked : (f : CheckFault) → IsJudged (after order) shape verdict (Err f) → FirstOf (HasCheckFault shape order verdict) (faults shape order verdict) f → IsChecked sizes cert (Err f)
    checked NoMemory w first = tt
    checked (BadSizes line) w first = absurd (none_of_texts verdict line (inl w))
    checked (BadCertificate line) w first = absurd (none_of_texts verdict line (inr w))
    checked (NotForced line) w first = record { shape = shape; order = order; verdict = verdict; sizes_are = p; cert_is = q; first = first }
    checked (NotAJump line) w first = record { shape = shape; order = order; verdict = verdict; sizes_are = p; cert_is = q; first = first }
    checked (Repeated line) w first = record { shape = shape; order = order; verdict = verdict; sizes_are = p; cert_is = q; first = first }
    checked (StillShort k) w first = record { shape = shape; order = order; verdict = verdict; sizes_are = p; cert_is = q; first = first }
    checked WrongTotal w first = record { shape = shape; order = order; verdict = verdict; sizes_are = p; cert_is = q; first = first }
    checked (NotOutOfRange k) w first = record { shape = shape; order = order; verdict = verdict; sizes_are = p; cert_is = q; first = first }

pub passed : (sizes cert : List ℕ) (shape : List Statement) (order : List ℕ) (long : List Bool) (verdict : Verdict) (u : Unit {0}) → ReadsSizes sizes (Ok shape) → ReadsCert cert (Ok (order, verdict)) → Follows shape order long → IsJudged (chosen long) shape verdict (Ok u) → Accepts sizes cert verdict
passed sizes cert shape order long verdict u p q follows judged = record {
  shape = shape;
  order = order;
  is_shape = p.0;
  sizes_are = p.1;
  is_cert = q.0;
  cert_is = q.1;
  forcing = follows.forcing;
  shown = in_order shape order long verdict (Ok u) follows judged;
}

-- so `check` answers this, or that memory ran out
pub only : (sizes cert : List ℕ) → ((a b : Result Verdict CheckFault) → Checks sizes cert a → Checks sizes cert b → a ≡ b) → (given : Result Verdict CheckFault) → IsChecked sizes cert given → (answer : Result Verdict CheckFault) → Checks sizes cert answer → (given ≡ answer) ⊎ (given ≡ Err NoMemory)
only sizes cert one (Err NoMemory) checks answer there = inr refl
only sizes cert one (Ok v) checks answer there = inl (one (Ok v) answer checks there)
only sizes cert one (Err (BadSizes line)) checks answer there = inl (one (Err (BadSizes line)) answer checks there)
only sizes cert one (Err (BadCertificate line)) checks answer there = inl (one (Err (BadCertificate line)) answer checks there)
only sizes cert one (Err (NotForced line)) checks answer there = inl (one (Err (NotForced line)) answer checks there)
only sizes cert one (Err (NotAJump line)) checks answer there = inl (one (Err (NotAJump line)) answer checks there)
only sizes cert one (Err (Repeated line)) checks answer there = inl (one (Err (Repeated line)) answer checks there)
only sizes cert one (Err (StillShort k)) checks answer there = inl (one (Err (StillShort k)) answer checks there)
only sizes cert one (Err WrongTotal) checks answer there = inl (one (Err WrongTotal) answer checks there)
only sizes cert one (Err (NotOutOfRange k)) checks answer there = inl (one (Err (NotOutOfRange k)) answer checks there)
