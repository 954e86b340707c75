use Rattle.std.proofs.Common.{◌∙◌, ap, refl, subst, sym, ◌++◌}
use Rattle.std.specs.Io.KnownBytes.{Appends}
use denote.Enum.Bare.{same_false}
use Rattle.cpm_console.specs.contracts.codes.Codes.{the_type}
use Rattle.cpm_console.specs.Codes.{screen_text}
use Rattle.z80dev_run.proofs.desk.Desk.show_bytes.Goals as goal
use Rattle.z80dev_run.proofs.desk.Desk.show_bytes.Goals.{in-Ok-print, in-Err-print}
use Rattle.z80dev_run.proofs.Printed.{shows_bytes}

pub returns-after-print-2-clause-shows : goal.returns-after-print-2-clause-shows
returns-after-print-2-clause-shows g c =
    let shown = c.in-Ok-show.ensures in
    elim c.match-print-2.branch [
      | in-Ok-print w ↦
          let text = c.deref.ensures.value ∙ shown.text ∙ ap (λ before. before ++ screen_text c.self.inside.screen.codes c.self.inside.screen.pending c.args.bytes.now) c.clear.ensures.items in
          rw (w.result-is, ← c.self.view_is)
          (shows_bytes _ _ _ _ _ _ _ _ _ _ (same_false the_type _ _ (sym c.if-eq.ensures)) shown.codes shown.next
          (subst (Appends (g.S.Sink.stream c.self.inside.output).bytes (g.S.Sink.stream c.print-in-Ok-show.new.sink).bytes) text w.in-Ok-print.ensures.0.0))
      | in-Err-print w ↦ rw (w.result-is, ← c.self.view_is) (refl, refl, refl)
    ]
