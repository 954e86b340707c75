use Rattle.std.proofs.Common.{◌∙◌, ap, arith, sym, subst, length}
use Rattle.std.specs.Vec.Iter.{into_iter_items}
use Rattle.asm_macro.specs.Views.{lines_seen}
use Rattle.source_errors.specs.Private.State.{numbered_of}
use Rattle.source_errors.proofs.Loops.{nil_of}
use Rattle.source_errors.proofs.Taking.{Goes, all_gone, goes_on, none_gone}
use Rattle.source_errors.proofs.counting.count_lines.Goals as goal

pub loop-line-init : goal.loop-line-init
loop-line-init c =
    let gives = c.into_iter-line-iterator.ensures.into_iter_gives in
    let long = gives.1 in
    let same = ap length gives.0 in (
      omega (arith, long, same, c.args.expanded.lines.ok),
      subst (λ ls. Goes (lines_seen c.args.expanded.lines.items) (lines_seen ls) c.new-counting.result) (sym gives.0)
          (none_gone (lines_seen c.args.expanded.lines.items) c.new-counting.result c.new-counting.ensures.sound c.new-counting.ensures.lines c.new-counting.ensures.findings),
    )

pub take-requires : goal.take-requires
take-requires c = c.loop-line.invariant.1.sound

pub loop-line-preserved : goal.loop-line-preserved
loop-line-preserved c =
    let was = c.loop-line.invariant.0 in
    let one = ap length c.in-Some.ensures.steps.0 in
    let less = c.in-Some.ensures.steps.1 in (
      omega (arith, was, one, less),
      goes_on c.loop-line.counting c.take.new.self (numbered_of c.in-Some.line) _ _ c.in_ok-take.ensures
          (subst (λ ls. Goes (lines_seen c.args.expanded.lines.items) (lines_seen ls) c.loop-line.counting) c.in-Some.ensures.steps.0 c.loop-line.invariant.1),
    )

pub returns-clause-sound : goal.returns-clause-sound
returns-clause-sound c = c.loop-line.invariant.1.sound

pub returns-clause-lines : goal.returns-clause-lines
returns-clause-lines c =
    let none = nil_of (into_iter_items c.loop-line.line-iterator) (sym c.loop-line.invariant.0 ∙ c.in-None.ensures.steps.0) in
    (all_gone _ c.loop-line.counting (subst (λ ls. Goes (lines_seen c.args.expanded.lines.items) (lines_seen ls) c.loop-line.counting) none c.loop-line.invariant.1)).0

pub returns-clause-findings : goal.returns-clause-findings
returns-clause-findings c =
    let none = nil_of (into_iter_items c.loop-line.line-iterator) (sym c.loop-line.invariant.0 ∙ c.in-None.ensures.steps.0) in
    (all_gone _ c.loop-line.counting (subst (λ ls. Goes (lines_seen c.args.expanded.lines.items) (lines_seen ls) c.loop-line.counting) none c.loop-line.invariant.1)).1
