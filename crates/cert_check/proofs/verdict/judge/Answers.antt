use Rattle.cert_check.specs.Choice.{chosen}
use Rattle.cert_check.proofs.Bytes.{all_bytes, all_fit}
use Rattle.cert_check.proofs.Judged.{best_judged, large_judged}
use Rattle.cert_check.proofs.verdict.judge.Goals as goal

pub check_total-requires : goal.check_total-requires
check_total-requires c = all_fit c.args.statements.now c.args.long.now c.args.sizes.now c.requires

pub returns-in-None : goal.returns-in-None
returns-in-None c =
    let bytes = all_bytes c.args.statements.now c.args.long.now c.args.sizes.now c.requires in
    let checked = rw (c.in-Best.is, bytes) at c.check_total.ensures in
    rw c.in-Best.is (best_judged (chosen c.args.long.now) c.args.statements.now c.in-Best.field-0 c.check_total.result c.in-None.ensures checked)

pub check_total-requires-in-TooLarge : goal.check_total-requires-in-TooLarge
check_total-requires-in-TooLarge c = all_fit c.args.statements.now c.args.long.now c.args.sizes.now c.requires

pub returns-in-TooLarge : goal.returns-in-TooLarge
returns-in-TooLarge c =
    let bytes = all_bytes c.args.statements.now c.args.long.now c.args.sizes.now c.requires in
    let checked = rw (c.in-TooLarge.is, bytes) at c.check_total-in-TooLarge.ensures in
    rw c.in-TooLarge.is (large_judged (chosen c.args.long.now) c.args.statements.now c.in-TooLarge.field-0 c.check_total-in-TooLarge.result checked)
