use Rattle.asm_names.specs.Lines.{lines_of}
use Rattle.asm_module.proofs.Layouts.Laying_down.{IsLaid}
use Rattle.asm_module.proofs.statements.laying.lay.Given as goal

abbrev pub invariant-loop-line : goal.invariant-loop-line
invariant-loop-line l = IsLaid l.grow l.names (lines_of l.lines) l.line-index l.next.items l.statements.items
