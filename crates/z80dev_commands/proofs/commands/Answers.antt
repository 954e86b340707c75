use Rattle.std.proofs.Common.{◌≡◌, inl, true, map, refl, string_bytes, subst}
use Rattle.std.proofs.lemmas.Result.{err_from_is_err_and}
use Rattle.clap.specs.Words.{HasKind, app_of, fault_of, found_of, is_simple_and_free, kind_of, rows_of, takes}
use Rattle.clap.specs.declared.error.kind.ErrorKind.{ErrorKind}
use Rattle.z80dev_commands.proofs.Ends.{ends_job, ends_refused, ends_taken}
use Rattle.z80dev_commands.proofs.Rows.{IsMet, met_by, unmet_by, unnamed}
use Rattle.z80dev_commands.proofs.commands.Goals as goal

pub returns-in_err-matches-clause-taken : goal.returns-in_err-matches-clause-taken
returns-in_err-matches-clause-taken c =
    let words = map (λ s. string_bytes s) c.args.words.now in
    let refused = subst (λ a. takes a words ≡ true → kind_of c.in_err-matches.field-0.0 ≡ ErrorKind.OutOfMemory) c.in_ok-z80dev.ensures.app c.in_err-matches.ensures.passes in
    let p = err_from_is_err_and c.from_residual-in_err-matches.result c.from_residual-in_err-matches.ensures.1 in
    rw (p.1, p.2) (λ taken counted. refused taken)

pub returns-in_err-matches-clause-refused : goal.returns-in_err-matches-clause-refused
returns-in_err-matches-clause-refused c =
    let words = map (λ s. string_bytes s) c.args.words.now in
    let refused = subst (λ a. is_simple_and_free a ≡ true → HasKind (fault_of a words) c.in_err-matches.field-0.0) c.in_ok-z80dev.ensures.app c.in_err-matches.ensures.kinds refl in
    let p = err_from_is_err_and c.from_residual-in_err-matches.result c.from_residual-in_err-matches.ensures.1 in
    rw (p.1, p.2) (inl refused)

pub job-requires : goal.job-requires
job-requires c =
    let words = map (λ s. string_bytes s) c.args.words.now in
    let m = c.in_ok-matches in
    let met : IsMet words c.in-Some.name.now (rows_of (found_of c.in-Some.found.now)) =
    met_by (app_of c.in_ok-z80dev.field-0) words m.matches _ _ c.in_ok-z80dev.ensures.app m.ensures.kinds m.ensures.matches c.in-Some.ensures.name c.in-Some.ensures.rows in
    (words, met.0, met.1)

pub returns : goal.returns
returns c =
    let words = map (λ s. string_bytes s) c.args.words.now in
    let m = c.in_ok-matches in
    let met : IsMet words c.in-Some.name.now (rows_of (found_of c.in-Some.found.now)) =
    met_by (app_of c.in_ok-z80dev.field-0) words m.matches _ _ c.in_ok-z80dev.ensures.app m.ensures.kinds m.ensures.matches c.in-Some.ensures.name c.in-Some.ensures.rows in
    record {
      job = ends_job words _ _ c.job.result met c.job.ensures;
      refused = ends_refused words _ _ c.job.result met c.job.ensures;
      taken = ends_taken words _ _ c.job.result met c.job.ensures;
    }

pub returns-in_default-clause-job : goal.returns-in_default-clause-job
returns-in_default-clause-job c =
    let m = c.in_ok-matches in
    unmet_by (app_of c.in_ok-z80dev.field-0) (map (λ s. string_bytes s) c.args.words.now) m.matches c.in_ok-z80dev.ensures.app m.ensures.kinds m.ensures.matches c.in_default.ensures.name

pub returns-then-words-le1-clause-job : goal.returns-then-words-le1-clause-job
returns-then-words-le1-clause-job c = unnamed (λ s. string_bytes s) c.args.words.now c.if-words-le1.true
