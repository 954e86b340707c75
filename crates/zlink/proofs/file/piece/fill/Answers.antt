use Rattle.std.proofs.Common.{◌≡◌, ℕ, ◌+◌, ◌++◌, ◌≤◌, length, slice_index, take, drop, ap, ◌∙◌, arith}
use Rattle.asm_stmt.specs.Cells.{written}
use Rattle.asm_module.specs.Program.Linked.{fill_one}
use Rattle.zmo_object.specs.Holes.{width_size}
use Rattle.zlink.proofs.Files.Filled.{filled-more, hole-within, length-fill_one}
use Rattle.zlink.proofs.file.piece.fill.Goals as goal

pub write-requires : goal.write-requires
write-requires c =
    let there = hole-within (length c.args.bytes.now) c.args.holes.now c.loop-hole.hole-index c.hole-item.result (omega arith) c.hole-item.is c.requires.within in
    omega (arith, there, c.loop-hole.invariant.len)

pub loop-hole-preserved : goal.loop-hole-preserved
loop-hole-preserved c =
    let h = c.hole-item.result in
    let places : ℕ → ℕ = λ ref. slice_index c.args.table.now ref in
    let there = hole-within (length c.args.bytes.now) c.args.holes.now c.loop-hole.hole-index h (omega arith) c.hole-item.is c.requires.within in
    let within : h.offset + width_size h.width ≤ length c.loop-hole.bytes = omega (arith, there, c.loop-hole.invariant.len) in
    let next : c.write.new.bytes ≡ fill_one places c.loop-hole.bytes h =
    c.write.ensures ∙ ap (λ n. take h.offset c.loop-hole.bytes ++ (written h.width n ++ drop (h.offset + length (written h.width n)) c.loop-hole.bytes)) c.value.ensures in
    record {
      is = filled-more places c.args.bytes.now c.loop-hole.bytes c.write.new.bytes c.args.holes.now c.loop-hole.hole-index h (omega arith) c.hole-item.is c.loop-hole.invariant.is next;
      len = ap length next ∙ length-fill_one places c.loop-hole.bytes h within ∙ c.loop-hole.invariant.len;
    }
