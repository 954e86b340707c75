use Rattle.std.proofs.Common.{◌≡◌, Bool, sym, subst, refl, get_or, length}
use Rattle.std.proofs.lemmas.Bool.{ltb-true}
use Rattle.std.proofs.lemmas.Option.{slice_get_read}
use Rattle.cert_check.specs.declared.shape.Statement.TheVariants.{Jump}
use Rattle.cert_check.proofs.Bytes.{longer}
use Rattle.cert_check.proofs.Followed.{more, not_forced}
use Rattle.cert_check.proofs.forced.follow.Goals as goal

pub returns-then-not-is_forced : goal.returns-then-not-is_forced
returns-then-not-is_forced c =
    let statements = c.args.statements.now in
    let long = c.loop-i.long.items in
    let k = get_or c.args.order.now c.loop-i.i 0 in
    let looked = rw c.in-Some-Jump.field-0-is at c.in-Some-Jump.ensures.lookup in
    let jump = slice_get_read statements (length statements) k (Jump c.in-Some-Jump.target) refl (ltb-true k (length statements) (sym looked.0)) looked.1 in
    let short = subst (λ (b : Bool). b ≡ get_or long k b) c.if-index.false c.index.ensures in
    not_forced statements c.args.order.now long c.loop-i.sizes.items c.loop-i.i c.in-Some-Jump.target c.loop-i-test.true c.loop-i.invariant.follows c.loop-i.invariant.layout jump (sym short) (rw c.deref-in-loop-i.ensures.value at c.if-not-is_forced.ensures)

pub loop-i-preserved : goal.loop-i-preserved
loop-i-preserved c =
    let statements = c.args.statements.now in
    let long = c.loop-i.long.items in
    let k = get_or c.args.order.now c.loop-i.i 0 in
    let looked = rw c.in-Some-Jump.field-0-is at c.in-Some-Jump.ensures.lookup in
    let jump = slice_get_read statements (length statements) k (Jump c.in-Some-Jump.target) refl (ltb-true k (length statements) (sym looked.0)) looked.1 in
    let short = subst (λ (b : Bool). b ≡ get_or long k b) c.if-index.false c.index.ensures in
    record {
      follows = more statements c.args.order.now long c.loop-i.sizes.items c.loop-i.i c.in-Some-Jump.target c.loop-i-test.true c.loop-i.invariant.follows c.loop-i.invariant.layout jump (sym short) (rw c.deref-in-loop-i.ensures.value at c.if-not-is_forced.ensures);
      layout = longer statements long c.loop-i.sizes.items k c.in-Some-Jump.target c.loop-i.invariant.layout jump;
    }
