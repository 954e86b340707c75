use Rattle.std.proofs.Common.{◌≡◌, ◌≤◌, ◌+◌, map, slice_index, take}
use Rattle.zmo_object.specs.Modules.{statement_of}
use Rattle.program_map.specs.Figures.{all_counted, figures}
use Rattle.program_map.specs.Private.Adding.{seen_kinds}
use Rattle.program_map.proofs.maps.figures.figures_of.Given as goal

-- The figures so far are those of the statements so far, whose bytes begin at the first address and end at this one.
abbrev pub invariant-loop-number : goal.invariant-loop-number
invariant-loop-number l = record {
  so_far : l.figures ≡ figures (all_counted (seen_kinds l.kinds) l.places (map statement_of (take l.number l.statements)));
  bytes : slice_index l.places 0 + (l.figures.code + l.figures.«data» + l.figures.space) ≡ slice_index l.places l.number;
  jumps : (l.figures.jumps ≤ l.number) × (l.figures.short ≤ l.number) × (l.figures.long ≤ l.number);
}
