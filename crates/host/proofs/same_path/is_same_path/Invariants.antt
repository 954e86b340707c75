use Rattle.std.proofs.Common.{◌≡◌}
use Rattle.std.specs.Path.{components_remaining}
use Rattle.host.specs.SamePath.{are_same_parts, is_same_path}
use Rattle.host.proofs.same_path.is_same_path.Given as goal

abbrev pub invariant-loop-part : goal.invariant-loop-part
invariant-loop-part l = is_same_path l.path l.other ≡ are_same_parts (components_remaining l.parts) (components_remaining l.others)
