use Rattle.std.proofs.Common.{◌≡◌, ◌-◌, ◌+◌, suc, ap, sym, ◌∙◌, arith}
use Rattle.asm_parse.specs.declared.values.expr.TheConstants.{MOST_ITEMS}
use Rattle.zmo_object.specs.Fields.Postfix.{items_within}
use Rattle.zmo_object.proofs.Fields.Items.{goes_on, stops, ends, with_front}
use Rattle.zmo_object.proofs.postfix.items_of.Goals as goal

pub returns-in_default : goal.returns-in_default
returns-in_default c =
    let left : MOST_ITEMS - c.loop.counter ≡ suc (MOST_ITEMS - (c.loop.counter + 1)) = omega arith in
    let last = ap (λ n. with_front c.loop.items.items (items_within n c.loop.rest.now)) left ∙ stops c.loop.items.items (MOST_ITEMS - (c.loop.counter + 1)) c.loop.rest.now (sym c.in_default.ensures) in
    c.whole.ensures ∙ sym last ∙ c.loop.invariant

pub loop-preserved : goal.loop-preserved
loop-preserved c =
    let left : MOST_ITEMS - c.loop.counter ≡ suc (MOST_ITEMS - (c.loop.counter + 1)) = omega arith in
    let next = ap (λ n. with_front c.loop.items.items (items_within n c.loop.rest.now)) left
    ∙ goes_on c.loop.items.items (MOST_ITEMS - (c.loop.counter + 1)) c.loop.rest.now c.in-Some.first c.in-Some.after.now (sym c.in-Some.ensures) in
    rw c.in_ok-push.ensures.items (sym next ∙ c.loop.invariant)

pub returns : goal.returns
returns c =
    let none_left : MOST_ITEMS - c.loop.counter ≡ 0 = omega arith in
    let last = ap (λ n. with_front c.loop.items.items (items_within n c.loop.rest.now)) none_left ∙ ends c.loop.items.items c.loop.rest.now in
    c.whole-2.ensures ∙ sym last ∙ c.loop.invariant
