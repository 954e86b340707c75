use Rattle.std.proofs.Common.{◌++◌, map, slice_index, take, ap, sym, ◌∙◌, arith}
use Rattle.zlink.specs.Built.{origins_by}
use Rattle.zlink.specs.Private.Assembling.{lines_in}
use Rattle.zlink.proofs.Coming_from.{lines_more}
use Rattle.zlink.proofs.origins.origins_of.Goals as goal

pub loop-number-preserved : goal.loop-number-preserved
loop-number-preserved c =
    let before = lines_in (take c.loop-number.number c.args.sources.now) in
    c.in_ok-put_origins.ensures before c.loop-number.invariant
    ∙ ap (origins_by (λ k. slice_index c.args.places.now k))
    (ap (λ lines. before ++ map (λ line. (c.loop-number.number, line)) lines) c.deref.ensures.value ∙ sym (lines_more c.args.sources.now c.loop-number.number c.index-sources-number.result (omega arith) c.index-sources-number.is))
