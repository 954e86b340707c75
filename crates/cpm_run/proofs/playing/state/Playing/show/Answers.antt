use Rattle.std.proofs.Common.{Result, Some, inl, inr, sym, ap, subst, refl, ◌∙◌, ◌++◌, ◌-◌, List, ℕ}
use Rattle.z80_cpu.specs.State.{machine}
use Rattle.cpm_console.specs.Dialog.{Dialog}
use Rattle.cpm_bdos.specs.System.{System}
use Rattle.cpm_run.specs.Play.{PlaysOn}
use Rattle.cpm_run.specs.Play.PlaysOn.{shows}
use Rattle.cpm_run.specs.Private.Playing.{ShowsRest, state_of}
use Rattle.cpm_console.specs.declared.station.StationFault.{StationFault}
use Rattle.std.proofs.lemmas.Result.{err_from_is_err_and}
use Rattle.cpm_run.proofs.Looking.{as_long, one_put, unasked_not_showed, unasked_showed}
use Rattle.cpm_run.proofs.Sitting.{shown_all}
use Rattle.cpm_run.proofs.playing.state.Playing.show.Goals as goal

pub returns-clause-all : goal.returns-clause-all
returns-clause-all g c = λ before shown was.
    (c.output-put.result.now, ap (λ (d : Dialog). d.output) (sym c.console.ensures) ∙ c.output-put.ensures, shown_all before (g.K.Station.seat c.args.station.now) (g.K.Station.seat c.show.new.self) shown c.args.self.now.ahead.items c.in-Some.rest.now c.output-put.result.now was c.in_ok-show.ensures.seat.screen (c.in-Some.ensures ∙ ap (λ (l : List ℕ). l ++ c.in-Some.rest.now) c.deref.ensures.value))

pub returns-clause-rest : goal.returns-clause-rest
returns-clause-rest g c = (
  c.clear.ensures.items,
  ap (λ (b : System _ Dialog). b.terminal.console.output) c.clear_output.ensures,
  λ start shown bytes put before.
      subst (λ (b : System _ Dialog). PlaysOn g.S.Sectors.sectors g.S.Sectors.faults start (record { run = record { machine = machine c.args.self.now.cpu c.args.self.now.memory; system = b }; turns = c.args.self.now.turns; arrivals = c.args.self.now.arrivals.items; shown = shown ++ bytes })) (sym c.clear_output.ensures)
      (shows bytes start (state_of c.args.self.now shown) before put),
)

pub returns-clause-spent : goal.returns-clause-spent
returns-clause-spent g c = λ rest put.
    let whole = one_put _ _ (sym put ∙ ap (λ (d : Dialog). d.output) (sym c.console.ensures) ∙ c.output-put.ensures) ∙ c.in-Some.ensures ∙ ap (λ (l : List ℕ). l ++ c.in-Some.rest.now) c.deref.ensures.value in
    c.saturating_sub-self.ensures ∙ ap (λ (n : ℕ). c.args.self.now.allowance - n) (sym (as_long c.args.self.now.ahead.items rest c.in-Some.rest.now whole))

pub returns-in_default-clause-events : goal.returns-in_default-clause-events
returns-in_default-clause-events g c =
    inr (c.output-put.result.now, ap (λ (d : Dialog). d.output) (sym c.console.ensures) ∙ c.output-put.ensures, (λ rest is. c.in_default.ensures rest (is ∙ ap (λ (l : List ℕ). l ++ rest) (sym c.deref.ensures.value))), refl)

pub returns-clause-events : goal.returns-clause-events
returns-clause-events g c = (c.in-Some.rest.now, ap (λ (d : Dialog). d.output) (sym c.console.ensures) ∙ c.output-put.ensures ∙ ap (λ (l : List ℕ). Some l) (c.in-Some.ensures ∙ ap (λ (l : List ℕ). l ++ c.in-Some.rest.now) c.deref.ensures.value), c.in_ok-show.ensures.seat.events)

pub returns-clause-keys : goal.returns-clause-keys
returns-clause-keys g c = record {
  coming = c.in_ok-show.ensures.seat.coming;
  leaves = c.in_ok-show.ensures.seat.leaves;
  looks = unasked_showed c.in-Some.rest.now _ _ c.in_ok-show.ensures.seat.events;
}

pub returns-in_err-show-clause-keys : goal.returns-in_err-show-clause-keys
returns-in_err-show-clause-keys g c = record {
  coming = c.in_err-show.ensures.seat.0;
  leaves = c.in_err-show.ensures.seat.1;
  looks = unasked_not_showed c.in-Some.rest.now _ _ c.in_err-show.ensures.seat.2;
}

pub returns-in_err-show-clause-events : goal.returns-in_err-show-clause-events
returns-in_err-show-clause-events g c =
    let p = err_from_is_err_and c.from_residual.result c.from_residual.ensures.1 in
    subst (λ (r : Result Unit StationFault). ShowsRest r c.args.self.now (g.K.Station.seat c.args.station.now) (g.K.Station.seat c.show.new.self)) (sym p.1) (inl (c.in-Some.rest.now, ap (λ (d : Dialog). d.output) (sym c.console.ensures) ∙ c.output-put.ensures ∙ ap (λ (l : List ℕ). Some l) (c.in-Some.ensures ∙ ap (λ (l : List ℕ). l ++ c.in-Some.rest.now) c.deref.ensures.value), c.in_err-show.ensures.seat.2))
