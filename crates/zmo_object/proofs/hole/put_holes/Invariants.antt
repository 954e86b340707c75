use Rattle.std.proofs.Common.{◌≡◌, ◌++◌, take}
use Rattle.std.specs.List.{flat_map}
use Rattle.zmo_object.specs.Texts.{hole_text}
use Rattle.zmo_object.proofs.hole.put_holes.Given as goal

abbrev pub invariant-loop-hole : goal.invariant-loop-hole
invariant-loop-hole l = l.text.items ≡ l.initial.text.items ++ flat_map hole_text (take l.hole-index l.holes)
