use Rattle.std.proofs.Common.{◌≡◌, ◌∙◌, ◌+◌, ◌++◌, sym, ap, subst, arith, map, drop, append-nil, true}
use Rattle.std.proofs.lemmas.List.{drop_all}
use Rattle.program_map.proofs.Listed.Parted.{between_bytes, pushed}
use Rattle.program_map.proofs.listings.cells.put_cells.Goals as goal

pub loop-index-preserved : goal.loop-index-preserved
loop-index-preserved c =
    let o = c.args.origin.now in
    rw c.in_ok-push.ensures.items
    (pushed c.loop-index.cells.items o.source o.line c.count_before-first.result c.loop-index.index c.between-value-items.result.now c.loop-index-test.true ∙ c.loop-index.invariant)

pub returns : goal.returns
returns c =
    let o = c.args.origin.now in
    let all : drop c.loop-index.index c.between-value-items.result.now ≡ Rattle.std.proofs.Common.[] = drop_all _ _ c.loop-index-test.false in
    let done = rw (all, append-nil) at c.loop-index.invariant in
    rw (done, c.count_before-first.ensures, c.between-value-items.ensures, between_bytes o.place c.args.next c.args.file.now) Rattle.std.proofs.Common.refl
