use Rattle.std.proofs.Common.{drop, refl, arith}
use Rattle.cpm_image.proofs.directory.entry.Entry.from_bytes.Goals as goal
use Rattle.std.proofs.Common.{length-drop}
use Rattle.std.proofs.lemmas.List.{take_all}

pub returns : goal.returns
returns c =
    let rest = take_all 16 (drop 16 c.args.bytes.now) (simp length-drop (omega arith)) in
    rw (c.copy_from_slice.ensures.after, c.copy_from_slice-2.ensures.after, rest) refl
