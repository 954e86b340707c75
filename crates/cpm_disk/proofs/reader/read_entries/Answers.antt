use Rattle.std.proofs.Common.{sym, ◌∙◌, arith}
use Rattle.cpm_disk.proofs.Numbers.{entries_of_records}
use Rattle.cpm_disk.proofs.Places.{at_directory, length_directory, same_entries}
use Rattle.cpm_disk.proofs.reader.read_entries.Goals as goal

pub returns-clause-entries : goal.returns-clause-entries
returns-clause-entries g c =
    let records = entries_of_records c.args.kind in
    let count = c.directory_records-number-end.ensures in
    same_entries c.args.kind c.loop-number.entries.items _ (let size = c.loop-number.invariant.size in omega (arith, c.loop-number-test.false, c.loop-number.auto.number-end)) (length_directory c.args.kind (g.S.Sectors.sectors c.args.device.now))
    (λ k below. c.loop-number.invariant.read k (omega (arith, c.loop-number-test.false)) ∙ sym (at_directory c.args.kind (g.S.Sectors.sectors c.args.device.now) k below))
