use Rattle.std.proofs.Common.{◌≡◌, ◌++◌, [], drop, get_or}
use Rattle.std.specs.List.{filter}
use Rattle.asm_line.specs.Replacing.Views.{in_call}
use Rattle.asm_text.specs.Private.Varying.{may_vary_plain}
use Rattle.asm_text.proofs.varying.places_with.Given as goal

-- The places found so far and those that are left give all places.
abbrev pub invariant-loop-place : goal.invariant-loop-place
invariant-loop-place l =
    filter (λ k. may_vary_plain l.sign (in_call l.names [] 0) (get_or l.lines k [])) l.places
    ≡ l.some.items ++ filter (λ k. may_vary_plain l.sign (in_call l.names [] 0) (get_or l.lines k [])) (drop l.place-index l.places)
