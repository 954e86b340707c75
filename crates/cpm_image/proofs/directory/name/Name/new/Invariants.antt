use Rattle.cpm_image.proofs.EntryBytes.{IsCut}
use Rattle.cpm_image.proofs.directory.name.Name.new.Given as goal

abbrev pub invariant-loop-byte : goal.invariant-loop-byte
invariant-loop-byte l = IsCut l.fn.bytes l.byte-items l.byte-index
