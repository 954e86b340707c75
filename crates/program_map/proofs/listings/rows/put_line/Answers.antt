use Rattle.std.proofs.Common.{◌≡◌, ◌∙◌, ap, arith, drop, take}
use Rattle.std.proofs.lemmas.List.{drop_min, take_min}
use Rattle.std.specs.Slice.Iter.{chunks_rest, chunks_size}
use Rattle.program_map.proofs.Listed.Digits.{line_put, row_put}
use Rattle.program_map.proofs.listings.rows.put_line.Goals as goal

pub loop-row-init : goal.loop-row-init
loop-row-init c =
    let cells = c.args.cells.now in
    let same = c.into_iter-row-iterator.ensures.into_iter_gives in
    let size : chunks_size c.into_iter-row-iterator.result ≡ 4 = ap chunks_size same ∙ c.chunks-row-items.ensures.size in
    let rest : chunks_rest c.into_iter-row-iterator.result ≡ c.split_at.result.1.now = ap chunks_rest same ∙ c.chunks-row-items.ensures.rest in
    let first : c.split_at.result.0.now ≡ take 4 cells = c.split_at.ensures.front ∙ ap (λ n. take n cells) c.min.ensures ∙ take_min 4 cells in
    let more : c.split_at.result.1.now ≡ drop 4 cells = c.split_at.ensures.back ∙ ap (λ n. drop n cells) c.min.ensures ∙ drop_min 4 cells in
    record {
      can_next = omega arith;
      finite = tt;
      size = size;
      all = rw rest (line_put c.args.text.now cells _ _ c.args.out.now.items _ first more c.in_ok-put_row.ensures);
    }

pub loop-row-preserved : goal.loop-row-preserved
loop-row-preserved c =
    let steps = c.in-Some.ensures.steps in
    let before = c.loop-row.invariant in
    let size : chunks_size c.next.new.self ≡ 4 = steps.0 ∙ before.size in
    let four = rw before.size at steps.1.1 in
    record {
      can_next = omega arith;
      finite = tt;
      size = size;
      all = row_put (chunks_rest c.loop-row.row-iterator) c.in-Some.row.now (chunks_rest c.next.new.self) c.loop-row.out.items _ steps.1.0 four steps.1.2 c.in_ok-put_row-2.ensures ∙ before.all;
    }
