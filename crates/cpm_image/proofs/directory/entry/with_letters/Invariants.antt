use Rattle.cpm_image.proofs.EntryBytes.{IsRenamed}
use Rattle.cpm_image.proofs.directory.entry.with_letters.Given as goal

abbrev pub invariant-loop-i : goal.invariant-loop-i
invariant-loop-i l = IsRenamed l.fn.name l.old l.byte-items l.i
