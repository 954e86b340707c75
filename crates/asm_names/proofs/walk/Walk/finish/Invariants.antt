use Rattle.std.proofs.Common.{◌≡◌}
use Rattle.asm_names.specs.Private.Standing.{Keeps, Standing, work}
use Rattle.asm_names.proofs.walk.Walk.finish.Given as goal

abbrev pub invariant-loop-start : goal.invariant-loop-start
invariant-loop-start l = record {
  standing : Standing l.uses l.self;
  seen : Keeps l.initial.self.seen.items l.self.seen.items;
}

abbrev pub decreases-loop-start : goal.decreases-loop-start
decreases-loop-start l = work l.uses l.self
