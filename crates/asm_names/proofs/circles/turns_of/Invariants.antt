use Rattle.std.proofs.Common.{◌≡◌, take, map}
use Rattle.asm_names.proofs.Uses.{uses_in}
use Rattle.asm_names.specs.Lines.{lines_of}
use Rattle.asm_names.proofs.circles.turns_of.Given as goal

abbrev pub invariant-loop-line : goal.invariant-loop-line
invariant-loop-line l = map (λ some. some.items) l.uses.items ≡ uses_in l.names (lines_of (take l.line-index l.lines))
