use Rattle.std.proofs.Common.{◌≡◌, ◌++◌, ℕ, List, map, slice_index, take}
use Rattle.zlink.specs.Built.{origin_of, origins_by}
use Rattle.zlink.proofs.origins.put_origins.Given as goal

abbrev pub invariant-loop-line : goal.invariant-loop-line
invariant-loop-line l = (before : List (ℕ × ℕ)) → map origin_of l.initial.origins.items ≡ origins_by (λ k. slice_index l.places k) before
    → map origin_of l.origins.items ≡ origins_by (λ k. slice_index l.places k) (before ++ map (λ line. (l.source, line)) (take l.line-index l.lines))
