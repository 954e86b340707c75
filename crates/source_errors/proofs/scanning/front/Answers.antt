use Rattle.std.proofs.Common.{◌∙◌, ap, arith, sym}
use Rattle.std.specs.Prelude.{is_none}
use Rattle.source_errors.proofs.Fronts.{front_less}
use Rattle.source_errors.proofs.scanning.front.Goals as goal

pub loop-count-preserved : goal.loop-count-preserved
loop-count-preserved c =
    let was = c.loop-count.invariant.0 in (
      omega (arith, was),
      front_less c.loop-count.count c.args.line.now c.loop-count-test.true (ap is_none (sym c.in_ok-fault_of.ensures ∙ c.in-Some.is)) ∙ c.loop-count.invariant.1,
    )
