use Rattle.std.proofs.Common.{◌≢◌, All, map, drop}
use Rattle.host.specs.Memory.{written_file}
use Rattle.host.proofs.memory.MemoryFiles.find.Given as goal

-- None of the files from this number on has the path.
abbrev pub invariant-loop-number : goal.invariant-loop-number
invariant-loop-number l = All (λ file. file.0 ≢ l.fn.path) (drop l.number (map written_file l.fn.self.written.items))
