use Rattle.std.proofs.Common.{[], ◌∙◌, sym, refl, arith, None, Some}
use Rattle.z80_cpu.specs.State.{machine}
use Rattle.cpm_run.specs.Walks.WalksTo.{none}
use Rattle.cpm_run.proofs.Going.{at, none_of, turn_as}
use Rattle.cpm_run.proofs.Walked.{walk_stops, walked_on}
use Rattle.cpm_run.proofs.tracing.traced_turns.Goals as goal

pub loop-wish-init : goal.loop-wish-init
loop-wish-init g c = ([], refl, omega arith, c.requires, none (at (machine c.args.cpu.now c.args.memory.now) c.args.bdos.now))

pub returns-in-Some : goal.returns-in-Some
returns-in-Some g c =
    let mid = at (machine c.loop-wish.cpu c.loop-wish.memory) c.loop-wish.bdos in
    let new = at (machine c.turn-end.new.cpu c.turn-end.new.memory) c.turn-end.new.bdos in
    walk_stops _ _ _ c.args.limit c.args.wish (at (machine c.args.cpu.now c.args.memory.now) c.args.bdos.now) mid new c.loop-wish.kept c.noted-kept.result c.loop-wish.turns c.bytes_at_pc-bytes.result c.in-Some.why
    c.ranges.limit.fits c.if-turns-limit.false (sym c.is_finished.ensures ∙ c.loop-wish-test.true) c.bytes_at_pc-bytes.ensures
    (turn_as _ _ _ c.turn-end.result (Some c.in-Some.why) mid new c.in-Some.is c.turn-end.ensures) c.noted-kept.ensures c.loop-wish.invariant

pub loop-wish-preserved : goal.loop-wish-preserved
loop-wish-preserved g c =
    let mid = at (machine c.loop-wish.cpu c.loop-wish.memory) c.loop-wish.bdos in
    let new = at (machine c.turn-end.new.cpu c.turn-end.new.memory) c.turn-end.new.bdos in
    walked_on _ _ _ c.args.limit c.args.wish (at (machine c.args.cpu.now c.args.memory.now) c.args.bdos.now) mid new c.loop-wish.kept c.noted-kept.result c.loop-wish.turns c.bytes_at_pc-bytes.result
    c.ranges.limit.fits c.if-turns-limit.false (sym c.is_finished.ensures ∙ c.loop-wish-test.true) c.bytes_at_pc-bytes.ensures
    (turn_as _ _ _ c.turn-end.result None mid new (none_of c.turn-end.result c.in_default.not-Some) c.turn-end.ensures) c.noted-kept.ensures c.loop-wish.invariant
