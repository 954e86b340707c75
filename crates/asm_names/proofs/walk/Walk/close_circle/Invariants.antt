use Rattle.std.proofs.Common.{◌≡◌, length}
use Rattle.asm_names.specs.Private.Standing.{Keeps, AreOnCircle, IsDraining}
use Rattle.asm_names.proofs.walk.Walk.close_circle.Given as goal

abbrev pub invariant-loop-self : goal.invariant-loop-self
invariant-loop-self l = record {
  draining : IsDraining l.uses l.start l.self;
  circle : AreOnCircle l.uses l.start l.self.path.items;
  seen : Keeps l.initial.self.seen.items l.self.seen.items;
  followed : l.self.followed.items ≡ l.initial.self.followed.items;
  frames : l.self.frames.items ≡ l.initial.self.frames.items;
}

abbrev pub decreases-loop-self : goal.decreases-loop-self
decreases-loop-self l = length l.self.path.items
