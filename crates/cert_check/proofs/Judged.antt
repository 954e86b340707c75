-- The verdict after the whole order.
use Rattle.std.proofs.Common.{ℕ, ◌+◌, ◌<◌, ◌≤◌, List, length, Result, Ok, Err, None, inl, inr, arith}
use Rattle.std.proofs.lemmas.Bool.{cases_lt}
use Rattle.std.proofs.lemmas.Option.{slice_get_within}
use Rattle.cert_check.specs.declared.shape.Statement.{Statement}
use Rattle.cert_check.specs.declared.shape.Statement.TheVariants.{Jump, Short}
use Rattle.cert_check.specs.declared.cert.Verdict.TheVariants.{Best, TooLarge}
use Rattle.cert_check.specs.Choice.{Choice, IsNear, IsSettled, ShortsReach, place, total}
use Rattle.cert_check.specs.Types.{CheckFault}
use Rattle.cert_check.specs.declared.fault.CheckFault.TheVariants.{BadSizes, BadCertificate, NotForced, NotAJump, Repeated, StillShort, WrongTotal, NotOutOfRange, NoMemory}
use Rattle.cert_check.specs.Faults.{IsStillShort}
use Rattle.cert_check.specs.Private.Following.{IsFirstMiss, IsTotalChecked, IsJudged}

pub still_within : (c : Choice) (shape : List Statement) (k : ℕ) → IsStillShort c shape k → k < length shape
still_within c shape k still = elim (still.jump) [
  | inl short ↦ slice_get_within shape k (Short still.target) short
  | inr jump ↦ slice_get_within shape k (Jump still.target) jump.0
]

-- if no statement below the end misses its target, none does
pub none_misses : (c : Choice) (shape : List Statement) (k : ℕ) → length shape ≤ k → ((j : ℕ) → j < k → ¬ IsStillShort c shape j) → (j : ℕ) → ¬ IsStillShort c shape j
none_misses c shape k le none j still = let lt = still_within c shape j still in none j (omega arith) still

near_or_not : (from to : ℕ) → (¬ IsNear from to → ⊥) → IsNear from to
near_or_not from to stable =
    elim (cases_lt (to + 128) (from + 2)) [
      | inl far ↦ absurd (stable (λ near. (let low = near.0 in absurd (omega arith))))
      | inr low ↦ elim (cases_lt (from + 2 + 127) to) [
        | inl far ↦ absurd (stable (λ near. (let high = near.1 in absurd (omega arith))))
        | inr high ↦ (low, high)
      ]
    ]

settled : (c : Choice) (shape : List Statement) → IsFirstMiss c shape None → IsSettled c shape
settled c shape none k t jump short = near_or_not (place c shape k) (place c shape t) (λ misses. none k (record { target = t; jump = inr (jump, short); misses = misses }))

shorts_reach : (c : Choice) (shape : List Statement) → IsFirstMiss c shape None → ShortsReach c shape
shorts_reach c shape none k t jump = near_or_not (place c shape k) (place c shape t) (λ misses. none k (record { target = t; jump = inl jump; misses = misses }))

-- if no jump misses its target, only the total is left to judge
pub best_judged : (c : Choice) (shape : List Statement) (n : ℕ) (r : Result (Unit {0}) CheckFault) → IsFirstMiss c shape None → IsTotalChecked (total c shape) (Best n) r → IsJudged c shape (Best n) r
best_judged c shape n (Ok _) none checked = (record { settled = settled c shape none; shorts = shorts_reach c shape none; fits = checked.1 }, checked.0)
best_judged c shape n (Err WrongTotal) none checked = (none, checked)
best_judged c shape n (Err (BadSizes line)) none checked = absurd checked
best_judged c shape n (Err (BadCertificate line)) none checked = absurd checked
best_judged c shape n (Err (NotForced line)) none checked = absurd checked
best_judged c shape n (Err (NotAJump line)) none checked = absurd checked
best_judged c shape n (Err (Repeated line)) none checked = absurd checked
best_judged c shape n (Err (StillShort k)) none checked = absurd checked
best_judged c shape n (Err (NotOutOfRange k)) none checked = absurd checked
best_judged c shape n (Err NoMemory) none checked = absurd checked

-- and if the program is too large, too
pub large_judged : (c : Choice) (shape : List Statement) (n : ℕ) (r : Result (Unit {0}) CheckFault) → IsTotalChecked (total c shape) (TooLarge n) r → IsJudged c shape (TooLarge n) r
large_judged c shape n (Ok _) checked = let (same, above) = checked in (same, omega arith)
large_judged c shape n (Err WrongTotal) checked = checked
large_judged c shape n (Err (BadSizes line)) checked = absurd checked
large_judged c shape n (Err (BadCertificate line)) checked = absurd checked
large_judged c shape n (Err (NotForced line)) checked = absurd checked
large_judged c shape n (Err (NotAJump line)) checked = absurd checked
large_judged c shape n (Err (Repeated line)) checked = absurd checked
large_judged c shape n (Err (StillShort k)) checked = absurd checked
large_judged c shape n (Err (NotOutOfRange k)) checked = absurd checked
large_judged c shape n (Err NoMemory) checked = absurd checked
