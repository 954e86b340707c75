use Rattle.std.proofs.Common.{refl, arith}
use Rattle.asm_spell.proofs.Lists.{content_begun, content_goes_on, content_written}
use Rattle.asm_spell.proofs.directive.content.Goals as goal

pub loop-at-init : goal.loop-at-init
loop-at-init c = rw c.new-bytes.ensures.items (content_begun c.args.text.now)

pub loop-at-preserved : goal.loop-at-preserved
loop-at-preserved c = rw c.width-at.ensures (content_goes_on _ c.args.text.now c.loop-at.bytes.items _ _ c.loop-at.at _ (omega arith) refl c.in_ok-push.ensures.items c.loop-at.invariant)

pub returns : goal.returns
returns c = content_written _ c.args.text.now c.loop-at.bytes.items _ c.loop-at.at (omega arith) c.loop-at.invariant
