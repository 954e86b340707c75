use Rattle.asm_module.proofs.Reading_lines.Taking.{Standing}
use Rattle.asm_macro.specs.Ahead.{most_left}
use Rattle.asm_module.proofs.reading.read_lines.Given as goal

abbrev pub invariant-loop-expander : goal.invariant-loop-expander
invariant-loop-expander l = Standing l.fn.text l.reading l.expander.ahead

abbrev pub decreases-loop-expander : goal.decreases-loop-expander
decreases-loop-expander l = most_left l.expander.ahead
