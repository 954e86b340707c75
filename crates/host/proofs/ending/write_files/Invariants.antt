use Rattle.std.proofs.Common.{take, List, ℕ}
use Rattle.host.specs.declared.answer.Kind.{Kind}
use Rattle.host.specs.Private.Steps.{AreOutputs}
use Rattle.host.specs.Finishing.{AllWritten}
use Rattle.host.proofs.ending.write_files.Given as goal

abbrev pub invariant-loop-output : goal.invariant-loop-output
invariant-loop-output g l = (all : List (Kind × List ℕ)) → AreOutputs l.base all l.outputs → AllWritten l.base (take l.output-index all) (g.F.Files.folder l.fn.files) (g.F.Files.folder l.files)
