use Rattle.std.proofs.Common.{◌<◌, ◌∙◌, ap, subst, arith, length}
use Rattle.std.proofs.lemmas.List.{map-append}
use Rattle.asm_line.specs.Replacing.Views.{texts}
use Rattle.asm_text.specs.declared.open.Local.{Local}
use Rattle.asm_text.specs.Private.Openings.{IsLocal}
use Rattle.asm_text.proofs.Openings.{opened_bad, opened_other, opened_names}
use Rattle.asm_text.proofs.open.open.Goals as goal

pub returns-in-Bad : goal.returns-in-Bad
returns-in-Bad c =
    let inside : c.loop-at.at < length c.args.lines.now = omega (arith, c.if-at-len.true, c.len.ensures) in
    opened_bad c.args.lines.now c.args.body (record c.args.body { at = c.loop-at.at }) (texts c.loop-at.locals.items) c.loop-at.invariant c.loop-at-test.true inside
    (subst (λ t. IsLocal t Local.Bad) c.line.ensures (subst (IsLocal c.line.result.now) c.in-Bad.is c.in_ok-found.ensures))

pub returns-in-Other : goal.returns-in-Other
returns-in-Other c =
    let inside : c.loop-at.at < length c.args.lines.now = omega (arith, c.if-at-len.true, c.len.ensures) in
    opened_other c.args.lines.now c.args.body (record c.args.body { at = c.loop-at.at }) (texts c.loop-at.locals.items) c.loop-at.invariant c.loop-at-test.true inside
    (subst (λ t. IsLocal t Local.Other) c.line.ensures (subst (IsLocal c.line.result.now) c.in-Other.is c.in_ok-found.ensures))

pub loop-at-preserved : goal.loop-at-preserved
loop-at-preserved c =
    let inside : c.loop-at.at < length c.args.lines.now = omega (arith, c.if-at-len.true, c.len.ensures) in
    opened_names c.args.lines.now c.args.body (record c.args.body { at = c.loop-at.at }) (texts c.loop-at.locals.items) c.in-Names.found (texts c.append.new.self.items) c.loop-at.invariant c.loop-at-test.true inside
    (subst (λ t. IsLocal t (Local.Names c.in-Names.found)) c.line.ensures (subst (IsLocal c.line.result.now) c.in-Names.is c.in_ok-found.ensures)) (ap texts c.in_ok-append-in-Names.ensures.items ∙ map-append (λ text. text.items) c.loop-at.locals.items c.in-Names.found.items)
