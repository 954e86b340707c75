use Rattle.std.proofs.Common.{ℕ, List, [], ◌∷◌, ◌++◌, ap, ◌∙◌, subst}
use Rattle.std.proofs.lemmas.Result.{IfOk-weaker}
use Rattle.machine_history.specs.Stops.{IsLast}
use Rattle.machine_history.specs.declared.stops.Stops.{Stops}
use Rattle.machine_history.specs.declared.stops.Watch.{Watch}
use Rattle.debugger.proofs.session.Session.last_change.Goals as goal

pub returns : goal.returns
returns c =
    let stops : Stops = record { breakpoints = c.new-stops.result.breakpoints; watches = c.push.new.self } in
    let watched = c.in_ok-push.ensures.items ∙ ap (λ (ws : List Watch). ws ++ record { from = c.args.address; count = 1 } ∷ []) c.new-stops.ensures.watches in
    IfOk-weaker c.last.result _ _ (λ last known. (stops, (c.new-stops.ensures.breakpoints, watched), subst (λ (n : ℕ). IsLast stops c.args.self.now.history n last) c.turn.ensures.turn known)) c.last.ensures
