use Rattle.std.proofs.Common.{◌∙◌, inl, inr, subst}
use Rattle.z80dev_jobs.proofs.Running.Given.{passed_on}
use Rattle.z80dev_jobs.specs.Runs.Debugging.{ReadsDebugged}
use Rattle.host.specs.Reading.{IsNotReadIfGiven, IsRead, IsReadIfGiven}
use Rattle.z80dev_jobs.proofs.runs.debugging.debugged_of.Goals as goal

pub returns-in_err-list : goal.returns-in_err-list
returns-in_err-list g c =
    let job = c.args.job.now in
    let old = g.F.Files.folder c.args.files.now in
    let image = c.in_ok-image.ensures in
    let program = c.in_ok-program.ensures in
    let labels = c.in_ok-labels.ensures in
    let read = subst (λ f. IsRead f job.program.now c.in_ok-program.program.items) image.0 program.1 in
    let labelled = subst (λ f. IsReadIfGiven f job.labels c.in_ok-labels.labels) (program.0 ∙ image.0) labels.1 in
    let new = g.F.Files.folder c.read_if_given-2.new.files in
    let e = c.in_err-list.field-0.0 in
    let not_read = subst (λ f. IsNotReadIfGiven f new job.list e) (labels.0 ∙ program.0 ∙ image.0) c.in_err-list.ensures in
    passed_on (ReadsDebugged job old new) e c.from_residual-in_err-list.result c.from_residual-in_err-list.ensures.1
    (inr (c.in_ok-image.image.items, image.1, inr (c.in_ok-program.program.items, read, inr (c.in_ok-labels.labels, labelled, inl not_read))))

pub returns-in_err-typed : goal.returns-in_err-typed
returns-in_err-typed g c =
    let job = c.args.job.now in
    let old = g.F.Files.folder c.args.files.now in
    let image = c.in_ok-image.ensures in
    let program = c.in_ok-program.ensures in
    let labels = c.in_ok-labels.ensures in
    let read = subst (λ f. IsRead f job.program.now c.in_ok-program.program.items) image.0 program.1 in
    let labelled = subst (λ f. IsReadIfGiven f job.labels c.in_ok-labels.labels) (program.0 ∙ image.0) labels.1 in
    let list = c.in_ok-list.ensures in
    let listed = subst (λ f. IsReadIfGiven f job.list c.in_ok-list.list) (labels.0 ∙ program.0 ∙ image.0) list.1 in
    let new = g.F.Files.folder c.read_or_none-2.new.files in
    let e = c.in_err-typed.field-0.0 in
    let not_read = subst (λ f. IsNotReadIfGiven f new job.input e) (list.0 ∙ labels.0 ∙ program.0 ∙ image.0) c.in_err-typed.ensures in
    passed_on (ReadsDebugged job old new) e c.from_residual-in_err-typed.result c.from_residual-in_err-typed.ensures.1
    (inr (c.in_ok-image.image.items, image.1, inr (c.in_ok-program.program.items, read, inr (c.in_ok-labels.labels, labelled, inr (c.in_ok-list.list, listed, not_read)))))
