use Rattle.std.proofs.Common.{◌≡◌, drop, map}
use Rattle.state_text.specs.Labelled.{parts_of, first_named}
use Rattle.state_text.proofs.labels.first_named.Given as goal

abbrev pub invariant-loop-label : goal.invariant-loop-label
invariant-loop-label l = first_named (map parts_of l.labels) l.name ≡ first_named (map parts_of (drop l.label-index l.labels)) l.name
