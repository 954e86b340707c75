-- A glance that is late reads.
use Rattle.std.proofs.Common.{◌≡◌, ◌≤◌, ◌+◌, ◌-◌, ℕ, Bool, true, false, refl, ap, ◌∙◌, arith}
use Rattle.std.specs.Prelude.{◌==◌, ◌||◌, if◌then◌else◌, nat_le}
use Rattle.std.proofs.lemmas.Bool.Decides.{nat_tests}
use Rattle.cpm_console.specs.declared.station.Patience.TheVariants as how
use Rattle.z80dev_run.specs.Rhythm.{is_read_due, pause}
use Rattle.z80dev_run.specs.declared.desk.Keys.TheVariants as keys
use Rattle.z80dev_run.specs.declared.rhythm.Rhythm.{Rhythm}

or_true : (b : Bool) → (b || true) ≡ true
or_true true = refl
or_true false = refl

choice : (b : Bool) → (if b then 2000000 else 200000) ≤ 2000000
choice true = omega arith
choice false = omega arith

pub late_is_read : (r : Rhythm) (last turns : ℕ) → r.paused ≤ last → last + 2000000 ≤ turns → is_read_due keys.Raw r turns how.Glance ≡ true
late_is_read r last turns before late =
    let most = choice r.is_busy in
    let enough : pause r ≤ turns - r.paused = omega (arith, most, before, late) in
    let due : nat_le (pause r) (turns - r.paused) ≡ true = grind (arith, nat_tests, enough) in
    ap (λ b. (r.allowance == 0) || b) due ∙ or_true (r.allowance == 0)
