use Rattle.cpm_disk.proofs.Blocks.{filled, filled_rest}
use Rattle.cpm_disk.proofs.Outcomes.{on_ok, settled}
use Rattle.cpm_disk.proofs.block.write_block.Goals as goal

pub returns-clause-written : goal.returns-clause-written
returns-clause-written g c = on_ok _ _ c.write_record.result
    (filled c.args.kind _ _ _ c.args.place.now c.args.i c.record_of.result c.args.bytes.now c.record_of.ensures.record c.requires.block c.requires.place c.in_ok-prepare.ensures.prepared)
    c.write_record.ensures.written

pub returns-clause-rest : goal.returns-clause-rest
returns-clause-rest g c = filled_rest c.args.kind _ _ _ c.args.place.now c.args.i c.record_of.result c.args.bytes.now c.record_of.ensures.record c.requires.place c.in_ok-prepare.ensures.prepared
    (settled _ _ c.write_record.result c.write_record.ensures.written c.write_record.ensures.stopped)
