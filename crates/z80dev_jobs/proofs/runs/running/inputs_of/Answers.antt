use Rattle.std.proofs.Common.{◌∙◌, inl, inr, option_map, refl, string_bytes, subst, sym}
use Rattle.z80dev_jobs.proofs.Running.Claimed.{given_before, read_before}
use Rattle.z80dev_jobs.proofs.Running.Given.{passed_on}
use Rattle.host.specs.Reading.{IsNotReadIfGiven, IsReadIfGiven, reader_of}
use Rattle.z80dev_jobs.specs.Runs.Running.{ClaimsDisk, ReadsInputs}
use Rattle.z80dev_jobs.proofs.runs.running.inputs_of.Goals as goal

pub returns-in_err-list-clause-inputs : goal.returns-in_err-list-clause-inputs
returns-in_err-list-clause-inputs g c =
    let run = c.args.job.now in
    let old = g.F.Files.folder c.args.files.now in
    let claimed = g.F.Files.folder c.claim_disk.new.files in
    let image = c.in_ok-bytes.field-0.bytes.items in
    let lines = option_map string_bytes c.in_ok-bytes.field-0.warnings in
    let claims = c.in_ok-bytes.ensures in
    let program = c.in_ok-program.ensures in
    let labels = c.in_ok-labels.ensures in
    let read = read_before run.disk run.lock old claimed image lines run.program.now c.in_ok-program.program.items claims program.1 in
    let labelled = given_before run.disk run.lock old claimed image lines run.telling.labels c.in_ok-labels.labels claims (subst (λ f. IsReadIfGiven f run.telling.labels c.in_ok-labels.labels) program.0 labels.1) in
    let input = c.args.input.now in
    let before = reader_of (g.I.Input.remaining input) (g.I.Input.failed input) (g.I.Input.reads input) (g.I.Input.interruptions input) in
    let new = g.F.Files.folder c.read_if_given-2.new.files in
    let e = c.in_err-list.field-0.0 in
    let not_read = subst (λ f. IsNotReadIfGiven f new run.telling.list e) (labels.0 ∙ program.0) c.in_err-list.ensures in
    passed_on (ReadsInputs run old new before before) e c.from_residual-in_err-list.result c.from_residual-in_err-list.ensures.1
    (inr (claimed, image, lines, claims, inr (c.in_ok-program.program.items, read, inr (c.in_ok-labels.labels, labelled, inl (not_read, refl)))))

pub returns-in_err-typed-clause-inputs : goal.returns-in_err-typed-clause-inputs
returns-in_err-typed-clause-inputs g c =
    let run = c.args.job.now in
    let old = g.F.Files.folder c.args.files.now in
    let claimed = g.F.Files.folder c.claim_disk.new.files in
    let image = c.in_ok-bytes.field-0.bytes.items in
    let lines = option_map string_bytes c.in_ok-bytes.field-0.warnings in
    let claims = c.in_ok-bytes.ensures in
    let program = c.in_ok-program.ensures in
    let labels = c.in_ok-labels.ensures in
    let read = read_before run.disk run.lock old claimed image lines run.program.now c.in_ok-program.program.items claims program.1 in
    let labelled = given_before run.disk run.lock old claimed image lines run.telling.labels c.in_ok-labels.labels claims (subst (λ f. IsReadIfGiven f run.telling.labels c.in_ok-labels.labels) program.0 labels.1) in
    let list = c.in_ok-list.ensures in
    let listed = given_before run.disk run.lock old claimed image lines run.telling.list c.in_ok-list.list claims (subst (λ f. IsReadIfGiven f run.telling.list c.in_ok-list.list) (labels.0 ∙ program.0) list.1) in
    let input = c.args.input.now in
    let before = reader_of (g.I.Input.remaining input) (g.I.Input.failed input) (g.I.Input.reads input) (g.I.Input.interruptions input) in
    let new = g.F.Files.folder c.read_if_given-2.new.files in
    let rest = c.read_input.new.input in
    let after = reader_of (g.I.Input.remaining rest) (g.I.Input.failed rest) (g.I.Input.reads rest) (g.I.Input.interruptions rest) in
    let e = c.in_err-typed.field-0.0 in
    passed_on (ReadsInputs run old new before after) e c.from_residual-in_err-typed.result c.from_residual-in_err-typed.ensures.1
    (inr (claimed, image, lines, claims, inr (c.in_ok-program.program.items, read, inr (c.in_ok-labels.labels, labelled, inr (c.in_ok-list.list, listed, (list.0 ∙ labels.0 ∙ program.0), c.in_err-typed.ensures.text)))))

pub returns-clause-inputs : goal.returns-clause-inputs
returns-clause-inputs g c =
    let run = c.args.job.now in
    let old = g.F.Files.folder c.args.files.now in
    let claimed = g.F.Files.folder c.claim_disk.new.files in
    let image = c.in_ok-bytes.field-0.bytes.items in
    let lines = option_map string_bytes c.in_ok-bytes.field-0.warnings in
    let claims = c.in_ok-bytes.ensures in
    let program = c.in_ok-program.ensures in
    let labels = c.in_ok-labels.ensures in
    let read = read_before run.disk run.lock old claimed image lines run.program.now c.in_ok-program.program.items claims program.1 in
    let labelled = given_before run.disk run.lock old claimed image lines run.telling.labels c.in_ok-labels.labels claims (subst (λ f. IsReadIfGiven f run.telling.labels c.in_ok-labels.labels) program.0 labels.1) in
    let list = c.in_ok-list.ensures in
    let listed = given_before run.disk run.lock old claimed image lines run.telling.list c.in_ok-list.list claims (subst (λ f. IsReadIfGiven f run.telling.list c.in_ok-list.list) (labels.0 ∙ program.0) list.1) in
    (subst (λ f. ClaimsDisk run.disk run.lock old f image lines) (sym (list.0 ∙ labels.0 ∙ program.0)) claims, read, labelled, listed, c.in_ok-typed.ensures.text)
