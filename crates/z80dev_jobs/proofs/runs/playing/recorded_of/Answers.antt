use Rattle.std.proofs.Common.{List, ℕ, MatchOption, Option, Ok, Some, refl, sym, subst}
use Rattle.z80dev_jobs.specs.Runs.Playing.{ReadsRecord}
use Rattle.machine_history.specs.Recorded.{IsNoRecord, IsRecord}
use Rattle.machine_history.specs.declared.recorded.Recorded.{Recorded}
use Rattle.z80dev_jobs.proofs.runs.playing.recorded_of.Goals as goal

pub returns-in-Some-2 : goal.returns-in-Some-2
returns-in-Some-2 g c =
    let recorded = c.in-Some-2.recorded in
    let read = c.in_ok-text.ensures in
    let found = subst (λ (o : Option Recorded). MatchOption o (IsNoRecord c.deref.result.now) (λ r. IsRecord c.deref.result.now r.arrivals.items r.last)) c.in-Some-2.is c.in_ok-recorded.ensures in
    subst (λ p. ReadsRecord p (g.F.Files.folder c.args.files.now) (g.F.Files.folder c.read.new.files) (Ok (Some recorded))) (sym c.in-Some.is)
    (read.0, c.in_ok-text.text.items, read.1, recorded, refl, subst (λ (t : List ℕ). IsRecord t recorded.arrivals.items recorded.last) c.deref.ensures.value found)
