use Rattle.std.proofs.Common.{◌≡◌, map, slice_index, take}
use Rattle.zlink.specs.Built.{origin_of, origins_by}
use Rattle.zlink.specs.Private.Assembling.{lines_in}
use Rattle.zlink.proofs.origins.origins_of.Given as goal

abbrev pub invariant-loop-number : goal.invariant-loop-number
invariant-loop-number l = map origin_of l.origins.items ≡ origins_by (λ k. slice_index l.places k) (lines_in (take l.number l.sources))
