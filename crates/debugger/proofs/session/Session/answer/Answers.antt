use Rattle.std.proofs.Common.{◌≡◌, List, ℕ, Bor, Ok, Option, ap, refl, sym, subst, ◌∙◌}
use Rattle.std.proofs.lemmas.Result.{IfOk-weaker}
use Rattle.state_text.specs.Labelled.{Known}
use Rattle.debugger.specs.Session.{AnswersAs}
use Rattle.debugger.specs.Text.{Says, listed_stops}
use Rattle.debugger_commands.specs.Typed.{Reading, line_meaning, shown_reading}
use Rattle.z80_cpu.specs.declared.registers.Cpu.{Cpu}
use Rattle.machine_history.specs.Walk.{MemoryState, Point}
use Rattle.debugger_commands.specs.declared.command.Command.{Command}
use Rattle.debugger.proofs.session.Session.answer.Goals as goal

pub returns-in_ok-told-in-Ok-Some-clause-obeys : goal.returns-in_ok-told-in-Ok-Some-clause-obeys
returns-in_ok-told-in-Ok-Some-clause-obeys c =
    let s = c.args.self.now in
    let n = c.obey.new.self in
    let command = c.in-Ok-Some.command in
    let told = c.in_ok-told-in-Ok-Some.told in
    let step = c.in_ok-told-in-Ok-Some.ensures in
    let state = c.snapshot-snapshot.ensures ∙ ap (λ (p : Point). p.state) c.point.ensures.point in
    let cpu = c.cpu.ensures ∙ ap (λ (m : MemoryState). m.machine.cpu) state in
    let meaning = ap (λ (it : Cpu). line_meaning s.labels it c.args.line.now) (sym cpu) ∙ sym c.in_ok-command.ensures ∙ ap shown_reading c.in-Ok-Some.is ∙ ap (λ (it : Option Command). Ok it) c.in-Ok-Some.field-0-is in
    let printed = ap (λ (m : MemoryState). m.system.terminal.console.output) (sym state) ∙ c.output-printed.ensures in
    let listed = subst (λ (known : Known). c.in_ok-listed-in-Ok-Some.listed.items ≡ listed_stops known s.stops command) (sym step.labels) c.in_ok-listed-in-Ok-Some.ensures in
    let says = c.said.ensures s.stops s.history c.output-printed.result.now listed printed refl in
    IfOk-weaker c.said.result _ _ (λ text said. (
    let shown = subst (λ (l : Bor (List ℕ)). Says command s.stops told s.history n.history n.labels l.now text.items) step.listing said in
    let known = subst (λ (k : Known). Says command s.stops told s.history n.history k s.listing.now text.items) step.labels shown in
    ((step.start, step.after), subst (λ (r : Reading (Option Command)). AnswersAs r s.labels s.listing.now s.history s.stops s.is_over n.history n.stops n.is_over text.items) (sym meaning) (told, step.moves, step.sets, step.over, known)))) says
