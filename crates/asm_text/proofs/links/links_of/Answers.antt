use Rattle.std.proofs.Common.{◌≡◌, ◌<◌, ◌+◌, ◌-◌, ◌∙◌, subst, ap, arith, length}
use Rattle.std.proofs.lemmas.List.{length-set}
use Rattle.asm_text.specs.Private.Nesting.{AreEnds, turn}
use Rattle.asm_text.proofs.Nesting.Linked.{more_linked, none_linked}
use Rattle.asm_text.proofs.links.links_of.Goals as goal

pub loop-at-init : goal.loop-at-init
loop-at-init c =
    let len : length c.in_ok-ends.ends.items ≡ length c.args.roles.items = omega (arith, c.in_ok-ends.ensures.len, c.len-len.ensures) in
    (omega (arith, c.len-len.ensures), len, none_linked c.args.roles.items c.in_ok-ends.ends.items c.len-len.result len (omega (arith, c.len-len.ensures)))

pub loop-at-preserved : goal.loop-at-preserved
loop-at-preserved c =
    let above : 0 < c.loop-at.at = c.loop-at-test.true in
    let now = c.loop-at.invariant in
    let one : c.loop-at.at ≡ c.loop-at.at - 1 + 1 = omega arith in (
      omega (arith, now.0),
      length-set c.loop-at.ends.items (c.loop-at.at - 1) c.turn-here.result ∙ now.1,
      more_linked c.args.roles.items c.loop-at.ends.items (c.loop-at.at - 1) c.index.result.now c.turn-here.result now.1 (subst (AreEnds c.args.roles.items c.loop-at.ends.items) one now.2)
          (omega (arith, above, now.0)) c.index.ensures (c.turn-here.ensures ∙ ap (turn c.index.result.now (c.loop-at.at - 1)) c.deref.ensures.value),
    )
