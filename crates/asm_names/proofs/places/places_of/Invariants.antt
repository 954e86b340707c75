use Rattle.std.proofs.Common.{◌-◌, length}
use Rattle.asm_names.specs.Layout.{layout_of}
use Rattle.asm_names.proofs.Placing.{PlacedSoFar}
use Rattle.asm_names.proofs.places.places_of.Given as goal

abbrev pub invariant-loop-name : goal.invariant-loop-name
invariant-loop-name l = PlacedSoFar l.table (layout_of l.layout) l.at l.places

abbrev pub decreases-loop-name : goal.decreases-loop-name
decreases-loop-name l = length l.table - l.at
