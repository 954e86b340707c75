use Rattle.std.proofs.Common.{◌∙◌, ℕ, List, ap, map, option_map, subst, sym}
use Rattle.disassembler.specs.Reading.{AreLabels, label_parts}
use Rattle.z80dev_jobs.specs.Runs.Telling.{AreKnown}
use Rattle.z80dev_run.specs.Labelled.{Known}
use Rattle.z80dev_jobs.proofs.runs.telling.labels_of.Goals as goal

pub returns-in_ok-new-in-Ok : goal.returns-in_ok-new-in-Ok
returns-in_ok-new-in-Ok c =
    let found = c.in-Ok.labels in
    let known = c.in_ok-new-in-Ok.field-0 in
    let labelled : List (ℕ × List ℕ) → Known = λ labels. record { labels = labels; size = c.args.size } in
    let same = c.in_ok-new-in-Ok.ensures ∙ ap (λ labels. labelled (map label_parts labels)) c.deref.ensures.value in
    subst (λ text. AreKnown (option_map (λ bytes. bytes.now) text) c.args.size known) (sym c.in-Some.is) (found, c.in-Ok.ensures, same)
