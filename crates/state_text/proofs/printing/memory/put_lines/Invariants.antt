use Rattle.std.proofs.Common.{◌≡◌, ◌++◌, drop}
use Rattle.std.specs.List.{flat_map}
use Rattle.state_text.specs.Printing.Memory.{memory_line}
use Rattle.state_text.proofs.printing.memory.put_lines.Given as goal

abbrev pub invariant-loop-start : goal.invariant-loop-start
invariant-loop-start l =
    l.out.items ++ flat_map (λ start. memory_line l.memory start 16) (drop l.start-index l.starts) ≡ l.fn.out.items ++ flat_map (λ start. memory_line l.memory start 16) l.starts
