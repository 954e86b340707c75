use Rattle.std.proofs.Common.{◌≡◌, ◌/◌, [], ap, arith, get_or, length, ◌∙◌}
use Rattle.std.specs.Simd.{first_chunks}
use Rattle.cpm_image.specs.Directory.Entries.{entry_of}
use Rattle.cpm_disk.proofs.Chunks.{piece_at}
use Rattle.cpm_disk.proofs.EntryList.{one_more_piece}
use Rattle.cpm_disk.proofs.reader.add_entries.Goals as goal

pub loop-piece-preserved : goal.loop-piece-preserved
loop-piece-preserved c =
    let front : c.as_chunks.result.0.now ≡ first_chunks 32 (length c.args.bytes.now / 32) c.args.bytes.now = c.as_chunks.ensures.front in
    let below = c.as_chunks.ensures.front_len in
    one_more_piece c.args.entries.now.items c.loop-piece.entries.items c.push.new.self.items c.args.bytes.now c.loop-piece.piece-index c.from_bytes.result c.loop-piece.invariant c.in_ok-push.ensures.items
    (c.from_bytes.ensures ∙ ap entry_of (ap (λ ps. get_or ps c.loop-piece.piece-index []) front ∙ piece_at (length c.args.bytes.now / 32) c.loop-piece.piece-index c.args.bytes.now (omega (arith, c.loop-piece-test.true, c.as_chunks.ensures.front_len))))
