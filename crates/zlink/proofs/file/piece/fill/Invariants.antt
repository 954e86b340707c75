use Rattle.std.proofs.Common.{◌≡◌, length, slice_index, take}
use Rattle.asm_module.specs.Program.Linked.{filled}
use Rattle.zlink.proofs.file.piece.fill.Given as goal

-- the fix-ups before this one are filled
abbrev pub invariant-loop-hole : goal.invariant-loop-hole
invariant-loop-hole l = record {
  is : l.bytes ≡ filled (λ ref. slice_index l.table ref) l.fn.bytes (take l.hole-index l.holes);
  len : length l.bytes ≡ length l.fn.bytes;
}
