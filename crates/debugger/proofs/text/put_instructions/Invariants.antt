use Rattle.std.proofs.Common.{◌≡◌, ◌≤◌, ◌-◌, ◌++◌}
use Rattle.debugger.specs.Instructions.{code_text}
use Rattle.debugger.proofs.text.put_instructions.Given as goal

-- The lines so far, and those of the instructions that are left, are all lines.
abbrev pub invariant-loop : goal.invariant-loop
invariant-loop l =
    (l.counter ≤ l.count) × (l.text.items ++ code_text l.labels l.snapshot.machine l.address (l.count - l.counter) ≡ l.fn.text.items ++ code_text l.labels l.snapshot.machine l.from l.count)
