use Rattle.std.proofs.Common.{◌++◌, ◌+◌, drop}
use Rattle.std.specs.List.{flat_map}
use Rattle.asm_macro.specs.Texts.{numbered}
use Rattle.source_warnings.specs.Macros.{line_defines_again}
use Rattle.source_warnings.specs.Private.Known.{Agrees}
use Rattle.source_warnings.proofs.macros.later_in.Given as goal

-- What is noted and what the other lines add is all.
abbrev pub invariant-loop-at : goal.invariant-loop-at
invariant-loop-at l = Agrees (l.later ++ flat_map (line_defines_again l.macros) (numbered (l.at + 1) (drop l.at l.lines))) (flat_map (line_defines_again l.macros) (numbered 1 l.lines))
