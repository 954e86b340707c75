use Rattle.std.proofs.Common.{◌≡◌, ◌+◌, ◌-◌, ◌*◌, drop, length, take, ap, sym, ◌∙◌, inl, inr, arith, length-drop, length-take}
use Rattle.std.proofs.lemmas.Bool.{cases_eq}
use Rattle.std.proofs.lemmas.List.{get_or_default}
use borrow.Rule.Slice.PartMut.{put_mid}
use Rattle.cpm_image.specs.Directory.Entries.{at, blank, entry_of}
use Rattle.cpm_disk.proofs.Chunks.{piece_kept, piece_put}
use Rattle.cpm_disk.proofs.records.directory_record.Goals as goal

pub loop-i-preserved : goal.loop-i-preserved
loop-i-preserved c = λ j below.
    let long = c.to_bytes-entry.array_long in
    let dropped = length-drop (32 * c.loop-i.i) c.loop-i.bytes in
    let taken = length-take (32 * c.loop-i.i + 32 - 32 * c.loop-i.i) (drop (32 * c.loop-i.i) c.loop-i.bytes) in
    let size : length c.copy_from_slice.new.self ≡ 32 = omega (arith, c.copy_from_slice.ensures.len) in
    let again : entry_of c.to_bytes-entry.result ≡ at c.args.entries.now (4 * c.args.record + c.loop-i.i) =
    c.to_bytes-entry.ensures.again ∙ get_or_default c.args.entries.now (4 * c.args.record + c.loop-i.i) _ blank (omega arith) in
    elim (cases_eq j c.loop-i.i) [
      | inl here ↦ ap (λ n. entry_of (take 32 (drop (32 * n) (put_mid (32 * c.loop-i.i) (32 * c.loop-i.i + 32 - 32 * c.loop-i.i) c.loop-i.bytes c.copy_from_slice.new.self)))) here
          ∙ ap entry_of (piece_put c.loop-i.bytes c.copy_from_slice.new.self (32 * c.loop-i.i) (32 * c.loop-i.i + 32 - 32 * c.loop-i.i) (omega arith) size ∙ c.copy_from_slice.ensures.after)
          ∙ again ∙ ap (λ n. at c.args.entries.now (4 * c.args.record + n)) (sym here)
      | inr other ↦ ap entry_of (piece_kept c.loop-i.bytes c.copy_from_slice.new.self c.loop-i.i j (32 * c.loop-i.i + 32 - 32 * c.loop-i.i) (omega arith) (omega arith)) ∙ c.loop-i.invariant j (omega arith)
    ]
