use Rattle.std.proofs.Common.{◌++◌, arith}
use Rattle.asm_line.specs.Replacing.Views.{names_seen, texts}
use Rattle.asm_line.specs.Private.Places.{placed}
use Rattle.asm_line.proofs.Replaced.Places.{place_step}
use Rattle.asm_line.proofs.replacing.names.add_all.Goals as goal

pub loop-at-preserved : goal.loop-at-preserved
loop-at-preserved c = (
  omega (arith, c.loop-at-test.true),
  λ f. place_step f (names_seen f c.loop-at.places.entries) (names_seen f c.add.new.places.entries) (names_seen f c.args.places.now.entries ++ placed f c.args.kind 0 (texts c.args.names.now)) c.args.kind c.args.names.now c.loop-at.at
      c.in_ok-name.name.items c.loop-at-test.true c.in_ok-name.ensures (c.loop-at.invariant.1 f) (c.in_ok-add.ensures f),
)
