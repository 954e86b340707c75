use Rattle.std.proofs.Common.{take}
use Rattle.asm_names.specs.Lines.{lines_of}
use Rattle.asm_names.specs.Layout.{layout_of}
use Rattle.asm_names.specs.Settles.{is_marked_circular}
use Rattle.asm_names.specs.Private.Turned.{Stands}
use Rattle.asm_names.proofs.settling.settle_names.Given as goal

-- The lines that have had their turn are settled.
abbrev pub invariant-loop-turn : goal.invariant-loop-turn
invariant-loop-turn l = Stands l.table (lines_of l.lines) (is_marked_circular l.turns) (layout_of l.layout) (take l.turn-index l.turns) l.settling
