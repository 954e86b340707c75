use Rattle.std.proofs.Common.{◌≡◌, ◌⊎◌, ◌<◌, ◌∙◌, arith, refl, replicate, subst}
use Rattle.cpm_image.specs.Kind.{block_records}
use Rattle.cpm_disk.specs.Image.{Wrote}
use Rattle.cpm_disk.proofs.Blocks.{after_all, cleared_more, cleared_past, one_of}
use Rattle.cpm_disk.proofs.block.clear_others.Goals as goal
use Rattle.cpm_disk.proofs.block.clear_others.Goals.{then-i-kept+in_ok-write_record, else-i-kept}

pub returns-in_err-write_record-clause-rest : goal.returns-in_err-write_record-clause-rest
returns-in_err-write_record-clause-rest g c =
    let below : c.loop-i.i < block_records c.args.kind = omega (arith, c.loop-i-test.true, c.from-i-end.ensures, c.block_records.ensures) in
    after_all c.args.kind _ _ _ c.args.block c.loop-i.invariant.so_far.rest
    (one_of c.args.kind _ _ c.args.block c.loop-i.i _ below
    (subst (λ n. (g.S.Sectors.sectors c.write_record.new.device ≡ g.S.Sectors.sectors c.loop-i.device) ⊎ Wrote c.args.kind (g.S.Sectors.sectors c.loop-i.device) (g.S.Sectors.sectors c.write_record.new.device) n (replicate 128 0)) c.record_of.ensures.record c.in_err-write_record.ensures.stopped))

pub loop-i-preserved : goal.loop-i-preserved
loop-i-preserved g c =
    let below : c.loop-i.i < block_records c.args.kind = omega (arith, c.loop-i-test.true, c.from-i-end.ensures, c.block_records.ensures) in
    elim c.if-i-kept.branch [
      | then-i-kept+in_ok-write_record w ↦ rw w.device-is record {
        count = w.in_ok-write_record.ensures.written.rest.count ∙ c.loop-i.invariant.count;
        so_far = cleared_more c.args.kind _ _ _ c.args.block c.args.kept c.loop-i.i _ _ c.requires.block below refl w.record_of.ensures.record c.loop-i.invariant.so_far w.in_ok-write_record.ensures.written;
        unfailed = w.in_ok-write_record.ensures.cause ∙ c.loop-i.invariant.unfailed;
      }
      | else-i-kept w ↦ rw w.device-is record {
        count = c.loop-i.invariant.count;
        so_far = cleared_past c.args.kind _ _ c.args.block c.args.kept c.loop-i.i w.if-i-kept.false c.loop-i.invariant.so_far;
        unfailed = c.loop-i.invariant.unfailed;
      }
    ]
