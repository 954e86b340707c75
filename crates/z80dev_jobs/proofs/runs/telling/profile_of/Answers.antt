use Rattle.std.proofs.Common.{None, Some, option_map, subst, sym}
use Rattle.z80dev_jobs.proofs.Running.Given.{wanted}
use Rattle.z80dev_jobs.specs.Runs.Telling.{IsFileIfGiven, IsProfileOf}
use Rattle.z80dev_jobs.proofs.runs.telling.profile_of.Goals as goal

pub returns-in_ok-coverage_file-in-Some-Some : goal.returns-in_ok-coverage_file-in-Some-Some
returns-in_ok-coverage_file-in-Some-Some c =
    let text = c.in_ok-coverage_file-in-Some-Some.field-0 in
    let known = c.args.labels.now in
    let counts = c.args.kept.now.counts.items in
    subst (λ listing. IsFileIfGiven (IsProfileOf (option_map (λ text. text.now) listing) known counts c.args.turns) c.args.telling.profile (Some text)) (sym c.in-Some-Some.is-1)
    (wanted (IsProfileOf (Some c.in-Some-Some.text.now) known counts c.args.turns) c.args.telling.profile c.in-Some-Some.field-0-0 text c.in-Some-Some.is-0 c.in_ok-coverage_file-in-Some-Some.ensures)

pub returns-in_ok-profile_file-in-Some-None : goal.returns-in_ok-profile_file-in-Some-None
returns-in_ok-profile_file-in-Some-None c =
    let text = c.in_ok-profile_file-in-Some-None.field-0 in
    let known = c.args.labels.now in
    let counts = c.args.kept.now.counts.items in
    subst (λ listing. IsFileIfGiven (IsProfileOf (option_map (λ text. text.now) listing) known counts c.args.turns) c.args.telling.profile (Some text)) (sym c.in-Some-None.is-1)
    (wanted (IsProfileOf None known counts c.args.turns) c.args.telling.profile c.in-Some-None.field-0-0 text c.in-Some-None.is-0 c.in_ok-profile_file-in-Some-None.ensures)
