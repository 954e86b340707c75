use Rattle.std.proofs.Common.{map, take}
use Rattle.host.specs.Answers.{file_of}
use Rattle.host.specs.Private.Steps.{AreOutputs}
use Rattle.host.proofs.ending.outputs_of.Given as goal

abbrev pub invariant-loop-file : goal.invariant-loop-file
invariant-loop-file l = AreOutputs l.base (take l.file-index (map file_of l.new)) l.outputs.items
