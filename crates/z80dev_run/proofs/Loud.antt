-- Once much is shown since the last read, the next glance reads.
use Rattle.std.proofs.Common.{◌≡◌, ◌≤◌, ◌+◌, ◌-◌, ◌∷◌, [], ℕ, Bool, true, false, List, length, length-append, refl, ap, ◌∙◌, arith, inl, inr}
use Rattle.std.specs.Prelude.{◌==◌, ◌||◌, if◌then◌else◌, nat_le}
use Rattle.std.specs.List.{concat}
use Rattle.std.proofs.lemmas.Bool.{cases_eq}
use Rattle.std.proofs.lemmas.Bool.Decides.{nat_tests}
use Rattle.cpm_console.specs.declared.station.Patience.{Patience}
use Rattle.cpm_console.specs.declared.station.Patience.TheVariants as how
use Rattle.z80dev_run.specs.Rhythm.{is_read_due, pause, rhythm_after_all, rhythm_after_asking, rhythm_after_showing}
use Rattle.z80dev_run.specs.declared.desk.Keys.TheVariants as keys
use Rattle.z80dev_run.specs.declared.rhythm.Rhythm.{Rhythm}

after_one : (bytes : List ℕ) (r : Rhythm) → (rhythm_after_showing bytes r).allowance ≡ r.allowance - length bytes
after_one bytes r = elim (cases_eq (length bytes) 0) [
  | inl none ↦
      let is : (length bytes == 0) ≡ true = grind (arith, nat_tests, none) in
      ap (λ (b : Bool). (if b then r else record r { is_busy = true; allowance = r.allowance - length bytes }).allowance) is ∙ omega (arith, none)
  | inr some ↦
      let is : (length bytes == 0) ≡ false = grind (arith, nat_tests, some) in
      ap (λ (b : Bool). (if b then r else record r { is_busy = true; allowance = r.allowance - length bytes }).allowance) is
]

after_all : (shown : List (List ℕ)) (r : Rhythm) → (rhythm_after_all shown r).allowance ≡ r.allowance - length (concat shown)
after_all [] r = omega arith
after_all (bytes ∷ more) r =
    let rest = after_all more (rhythm_after_showing bytes r) in
    let first = after_one bytes r in
    let size : length (concat (bytes ∷ more)) ≡ length bytes + length (concat more) = length-append bytes (concat more) in
    omega (arith, rest, first, size)

pub loud_is_read : (shown : List (List ℕ)) (r : Rhythm) (turns : ℕ) → r.allowance ≤ 1048576 → 1048576 ≤ length (concat shown) → is_read_due keys.Raw (rhythm_after_all shown r) turns how.Glance ≡ true
loud_is_read shown r turns most much =
    let left = after_all shown r in
    let none : (rhythm_after_all shown r).allowance ≡ 0 = omega (arith, left, most, much) in
    let loud : ((rhythm_after_all shown r).allowance == 0) ≡ true = grind (arith, nat_tests, none) in
    ap (λ b. b || nat_le (pause (rhythm_after_all shown r)) (turns - (rhythm_after_all shown r).paused)) loud

pub asking_changes_nothing : (r : Rhythm) (turns : ℕ) (patience : Patience) → rhythm_after_asking keys.Raw r turns patience ≡ r
asking_changes_nothing r turns how.Wait = refl
asking_changes_nothing r turns how.Poll = refl
asking_changes_nothing r turns how.Glance = refl
