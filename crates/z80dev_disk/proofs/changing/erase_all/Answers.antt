use Rattle.std.proofs.Common.{[], ◌∙◌, get_or, subst}
use Rattle.std.proofs.lemmas.Result.{err_from_is_err_and}
use Rattle.z80dev_disk.specs.Changes.{Erases, StopsErasing, refused_name}
use Rattle.z80dev_disk.specs.Private.{IsRefusedAt}
use Rattle.z80dev_disk.proofs.Alongs.{along_step, got_at, stops_at}
use Rattle.z80dev_disk.proofs.changing.erase_all.Goals as goal

pub returns-in_err-erase_one-clause-stopped : goal.returns-in_err-erase_one-clause-stopped
returns-in_err-erase_one-clause-stopped c =
    let (kind_is, sound, so_far) = c.loop-pattern.invariant in
    let user = c.args.user in
    let kind = c.args.disk.now.kind in
    let pattern = get_or c.args.patterns.now c.loop-pattern.pattern-index [] in
    let stops = subst (λ k. IsRefusedAt (StopsErasing k user) (refused_name k user) pattern c.loop-pattern.disk.device c.in_err-erase_one.field-0.0) kind_is c.in_err-erase_one.ensures.stopped in
    let p = err_from_is_err_and c.from_residual.result c.from_residual.ensures.1 in
    rw (p.1, p.2) (stops_at (Erases kind user) (StopsErasing kind user) (refused_name kind user) c.args.patterns.now c.loop-pattern.pattern-index pattern c.args.disk.now.device c.loop-pattern.disk.device c.in_err-erase_one.field-0.0
    (got_at c.args.patterns.now c.loop-pattern.pattern-index [] c.loop-pattern-test.true) so_far stops)

pub loop-pattern-preserved : goal.loop-pattern-preserved
loop-pattern-preserved c =
    let (kind_is, sound, so_far) = c.loop-pattern.invariant in
    let user = c.args.user in
    let pattern = get_or c.args.patterns.now c.loop-pattern.pattern-index [] in
    let erased = subst (λ k. Erases k user pattern c.loop-pattern.disk.device c.erase_one.new.disk.device) kind_is c.in_ok-erase_one.ensures.erased in (
      c.in_ok-erase_one.ensures.kind ∙ kind_is,
      c.in_ok-erase_one.ensures.sound,
      along_step (Erases c.args.disk.now.kind user) c.args.patterns.now c.loop-pattern.pattern-index pattern c.args.disk.now.device c.loop-pattern.disk.device c.erase_one.new.disk.device
          (got_at c.args.patterns.now c.loop-pattern.pattern-index [] c.loop-pattern-test.true) so_far erased,
    )
