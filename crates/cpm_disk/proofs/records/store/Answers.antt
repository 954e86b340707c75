use Rattle.std.proofs.Common.{slice_set, ◌∙◌}
use Rattle.cpm_disk.specs.Image.{Wrote}
use Rattle.cpm_disk.specs.Calls.{Changed}
use Rattle.cpm_disk.proofs.Outcomes.{on_err, on_ok, second}
use Rattle.cpm_disk.proofs.Places.{changed_as}
use Rattle.cpm_disk.proofs.records.store.Goals as goal
use Rattle.cpm_disk.proofs.records.store.Given as given

made : (g : given.Over) (c : goal.After-write_record g)
    → Wrote c.args.kind (g.S.Sectors.sectors c.args.device.now) (g.S.Sectors.sectors c.write_record.new.device) c.new-logical_record.result c.directory_record-bytes.result
    → Changed c.args.kind (g.S.Sectors.sectors c.args.device.now) (g.S.Sectors.sectors c.write_record.new.device) (slice_set c.args.entries.now c.from.result c.args.entry)
made g c = changed_as c.args.kind _ _ c.args.entries.now c.args.entry_number c.from.result c.from-2.result c.new-logical_record.result c.args.entry c.directory_record-bytes.result
    c.from.ensures c.from-2.ensures (c.new-logical_record.ensures ∙ c.from-3.ensures) c.requires.entries c.requires.number c.directory_record-bytes.ensures

pub returns-clause-stored : goal.returns-clause-stored
returns-clause-stored g c = on_ok _ _ c.write_record.result (made g c) c.write_record.ensures.written

pub returns-clause-stopped : goal.returns-clause-stopped
returns-clause-stopped g c = on_err _ _ c.write_record.result (second _ _ _ (made g c)) c.write_record.ensures.stopped
