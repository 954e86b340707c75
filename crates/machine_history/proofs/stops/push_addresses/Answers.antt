use Rattle.std.proofs.Common.{◌≡◌, ℕ, ◌+◌, List, [], ◌∷◌, ◌++◌, ap, append_assoc, arith, ◌∙◌, sym}
use Rattle.std.proofs.lemmas.List.FromFn.{map-range_with_len_more}
use Rattle.z80_cpu.specs.State.{up_by}
use Rattle.machine_history.specs.Stops.{addresses}
use Rattle.machine_history.proofs.stops.push_addresses.Goals as goal

one_more : (from n : ℕ) → addresses (record { from = from; count = n }) ++ up_by n from ∷ [] ≡ addresses (record { from = from; count = n + 1 })
one_more from n = sym (map-range_with_len_more (λ offset. up_by offset from) 0 n n (omega arith))

found_more : (old now new : List ℕ) (from n : ℕ) → new ≡ now ++ up_by n from ∷ [] → now ≡ old ++ addresses (record { from = from; count = n }) → new ≡ old ++ addresses (record { from = from; count = n + 1 })
found_more old now new from n e same =
    e ∙ ap (λ (l : List ℕ). l ++ up_by n from ∷ []) same ∙ append_assoc old (addresses (record { from = from; count = n })) (up_by n from ∷ []) ∙ ap (λ (l : List ℕ). old ++ l) (one_more from n)

pub loop-offset-preserved : goal.loop-offset-preserved
loop-offset-preserved c = found_more c.args.found.now.items c.loop-offset.found.items c.push.new.self.items c.args.watch.from c.loop-offset.offset c.in_ok-push.ensures.items c.loop-offset.invariant
