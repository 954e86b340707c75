use Rattle.std.proofs.Common.{inr}
use Rattle.cert_check.proofs.SizesRead.{far, spelled}
use Rattle.cert_check.proofs.sizes.shape_of.Goals as goal

pub returns-in-Some : goal.returns-in-Some
returns-in-Some c =
    let (lines, read, few, text_is) = c.in_ok-statements.ensures in
    inr (far c.args.text.now lines c.in_ok-statements.statements.items c.in-Some.far read few text_is (rw c.deref.ensures.value at c.in-Some.ensures))

pub returns : goal.returns
returns c =
    let (lines, read, few, text_is) = c.in_ok-statements.ensures in
    rw c.new.ensures (spelled c.args.text.now lines c.in_ok-statements.statements.items read few text_is (rw c.deref.ensures.value at c.in_default.ensures))
