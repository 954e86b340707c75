use Rattle.std.proofs.Common.{inl, inr, ◌∙◌, ap, Some}
use Rattle.std.proofs.lemmas.Option.{slice_get-get_or}
use Rattle.cert_check.specs.declared.shape.Statement.TheVariants.{Fixed}
use Rattle.cert_check.proofs.Bytes.{still}
use Rattle.cert_check.proofs.layout.misses.Goals as goal

pub returns-in-Jump : goal.returns-in-Jump
returns-in-Jump c =
    let here = slice_get-get_or c.args.statements.now c.args.k (Fixed 0) c.requires.within ∙ ap Some c.in-Jump.is in
    let target = rw c.in-Jump.is at (c.requires.layout.is_shape.each c.args.k (Fixed 0) c.requires.within) in
    still c.args.statements.now c.args.long.now c.args.sizes.now c.requires.layout c.args.k c.in-Jump.target c.requires.within target c.reaches.result (inr (here, c.if-not-long-k.true)) c.reaches.ensures

pub returns-in-Short : goal.returns-in-Short
returns-in-Short c =
    let here = slice_get-get_or c.args.statements.now c.args.k (Fixed 0) c.requires.within ∙ ap Some c.in-Short.is in
    let target = rw c.in-Short.is at (c.requires.layout.is_shape.each c.args.k (Fixed 0) c.requires.within) in
    still c.args.statements.now c.args.long.now c.args.sizes.now c.requires.layout c.args.k c.in-Short.target c.requires.within target c.reaches-in-Short.result (inl here) c.reaches-in-Short.ensures

pub returns-in_default : goal.returns-in_default
returns-in_default c = λ s. (
    let here = slice_get-get_or c.args.statements.now c.args.k (Fixed 0) c.requires.within ∙ ap Some c.in-Jump.is in
    let long = c.if-not-long-k.false in
    elim (s.jump) [
      | inl short ↦ absurd (cc)
      | inr jump ↦ (let (named, is_short) = jump in absurd (cc))
    ])

pub returns-in_default-2 : goal.returns-in_default-2
returns-in_default-2 c = λ s. (
    let here = slice_get-get_or c.args.statements.now c.args.k (Fixed 0) c.requires.within ∙ ap Some c.in_default.is in
    elim (s.jump) [
      | inl short ↦ absurd (cc)
      | inr jump ↦ (let named = jump.0 in absurd (cc))
    ])
