use Rattle.std.proofs.Common.{◌≡◌, ◌∙◌, ◌+◌, ◌<◌, arith, filter, inr}
use Rattle.program_map.specs.Private.Runs.{is_on}
use Rattle.program_map.proofs.Listed.Whole.{behind_more, line_more}
use Rattle.program_map.proofs.listings.lines.put_source.Goals as goal

pub loop-line-preserved : goal.loop-line-preserved
loop-line-preserved c =
    let before = c.loop-line.invariant in
    let n = c.loop-line.number in
    let below : n < c.args.last = omega (arith, c.if-number-last.false, before.within) in
    let own : c.split_line.result.0.now ≡ filter (is_on c.args.source (n + 1)) c.args.cells.now =
    c.split_line.ensures.own ∙ before.rest.lines c.args.source (n + 1) (inr (Rattle.std.proofs.Common.refl, omega arith)) in
    record {
      can_next = tt;
      finite = tt;
      within = omega arith;
      rest = behind_more c.args.source n _ _ c.args.cells.now c.split_line.ensures.others before.rest;
      all = line_more c.args.source c.args.cells.now _ n c.args.last c.in-Some.line.now c.next.new.self _ c.loop-line.out.items _ c.in-Some.ensures.steps below own c.in_ok-put_line.ensures ∙ before.all;
    }
