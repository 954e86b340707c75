use Rattle.std.proofs.Common.{ap}
use Rattle.relax.proofs.sums.SumsRuler.fits.Goals as goal

pub returns-clause-answer : goal.returns-clause-answer
returns-clause-answer c =
    let shape = ap (λ v. v.shape) c.self.view_is in
    let long = ap (λ v. v.long) c.self.view_is in (
      λ near t jump. rw (← shape, ← long) ((c.reaches.ensures.jump t (rw shape jump)).0 near),
      λ fits. (c.reaches.ensures.jump c.requires.jump.0 (rw shape c.requires.jump.1)).1 (rw (shape, long) (fits c.requires.jump.0 c.requires.jump.1)),
    )
