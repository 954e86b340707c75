use Rattle.std.proofs.Common.{◌≡◌, ◌∙◌, ◌++◌, ◌∷◌, ap, sym, arith, false, [], get_or}
use Rattle.asm_line.specs.Replacing.Views.{in_call}
use Rattle.asm_text.specs.Lines.{heard}
use Rattle.asm_text.specs.Private.Varying.{may_vary}
use Rattle.asm_text.proofs.Unvaried.{named, stays, unnamed}
use Rattle.asm_text.proofs.varying.places_of.Goals as goal
use Rattle.asm_text.proofs.varying.places_of.Goals.{then-branch+in_ok-place_of+in_ok-push, else-branch, then-loop-at-test+else-at-len, else-loop-at-test}

pub loop-at-preserved : goal.loop-at-preserved
loop-at-preserved c = λ t only.
    let texts = c.args.lines.now in
    let told = c.loop-at.invariant t only in
    elim c.if-branch.branch [
      | then-branch+in_ok-place_of+in_ok-push w ↦ named texts t c.loop-at.places.items c.if-branch.places.items c.args.body.at c.loop-at.at told (ap (λ v. v.items) w.places-is ∙ w.in_ok-push.ensures.items ∙ ap (λ place. c.loop-at.places.items ++ place ∷ []) w.in_ok-place_of.ensures)
      | else-branch w ↦
          let same : may_vary (in_call c.args.names.now [] 0) (heard (get_or texts c.loop-at.at [])) ≡ false = ap (λ l. may_vary (in_call c.args.names.now [] 0) (heard l)) (sym c.line.ensures) ∙ sym c.in_ok-may_vary.ensures ∙ w.if-branch.false in
          unnamed texts t c.loop-at.places.items c.if-branch.places.items c.args.body.at c.loop-at.at told (ap (λ v. v.items) w.places-is) (stays c.unreplaced.ensures c.front_stays.ensures t (in_call c.args.names.now [] 0) only (get_or texts c.loop-at.at []) same)
    ]

pub returns : goal.returns
returns c = λ t only k after before within.
    elim c.loop-at-test.branch [
      | then-loop-at-test+else-at-len w ↦ c.loop-at.invariant t only k after (omega (arith, within, w.if-at-len.false, w.len.ensures)) within
      | else-loop-at-test w ↦ c.loop-at.invariant t only k after (omega (arith, before, w.loop-at-test.false)) within
    ]
