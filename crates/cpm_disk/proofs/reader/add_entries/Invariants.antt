use Rattle.cpm_disk.specs.Private.Reading.{Extended}
use Rattle.cpm_disk.proofs.reader.add_entries.Given as goal

abbrev pub invariant-loop-piece : goal.invariant-loop-piece
invariant-loop-piece l = Extended l.fn.entries.items l.entries.items l.bytes l.piece-index
