use Rattle.std.proofs.Common.{◌∙◌, inr}
use Rattle.std.proofs.lemmas.Result.{err_from_is_err_and}
use Rattle.cpm_disk.specs.Calls.{PartlyWritten}
use Rattle.cpm_disk.proofs.Blocks.{directory_beside, written_partly, written_whole}
use Rattle.cpm_disk.proofs.Outcomes.{on_err, on_ok}
use Rattle.cpm_disk.proofs.block.write_all.Goals as goal

pub returns-in_err-write_block-clause-stopped : goal.returns-in_err-write_block-clause-stopped
returns-in_err-write_block-clause-stopped g c =
    let left : PartlyWritten c.args.kind (g.S.Sectors.sectors c.args.device.now) (g.S.Sectors.sectors c.write_block.new.device) c.args.place.now c.args.i c.args.bytes.now =
    inr (directory_beside c.args.kind _ _ c.args.place.now.block c.requires.from c.in_err-write_block.ensures.rest, c.in_err-write_block.ensures.rest, c.in_err-write_block.ensures.stopped) in
    let p = err_from_is_err_and c.from_residual.result c.from_residual.ensures.1 in rw p.1 left

pub store-requires-clause-entries : goal.store-requires-clause-entries
store-requires-clause-entries g c = directory_beside c.args.kind _ _ c.args.place.now.block c.requires.from c.in_ok-write_block.ensures.rest ∙ c.requires.entries

pub returns-clause-written : goal.returns-clause-written
returns-clause-written g c = on_ok _ _ c.store.result
    (written_whole c.args.kind _ _ _ c.args.place.now c.args.i c.args.bytes.now c.args.entries.now c.store.new.entries c.requires.from c.requires.to c.requires.place c.requires.entries c.in_ok-write_block.ensures.written c.store.ensures.entries)
    c.store.ensures.stored

pub returns-clause-stopped : goal.returns-clause-stopped
returns-clause-stopped g c = on_err _ _ c.store.result
    (written_partly c.args.kind _ _ _ c.args.place.now c.args.i c.args.bytes.now c.args.entries.now c.store.new.entries c.requires.from c.requires.to c.requires.place c.requires.entries
    (directory_beside c.args.kind _ _ c.args.place.now.block c.requires.from c.in_ok-write_block.ensures.rest ∙ c.requires.entries) c.in_ok-write_block.ensures.written c.store.ensures.entries)
    c.store.ensures.stopped
