-- The bytes of a session are in order.
use Rattle.std.proofs.Common.{◌≡◌, ◌≤◌, ◌+◌, ◌++◌, ◌∷◌, ◌⊎◌, [], ℕ, zero, suc, List, Option, Some, None, length, slice_get, refl, sym, ap, subst, ◌∙◌, arith, inl, inr}
use Rattle.std.proofs.lemmas.Option.{slice_get_within}
use Rattle.cpm_disk.specs.Calls.{Mounted}
use Rattle.cpm_disk.specs.Image.{Image}
use Rattle.cpm_run.specs.declared.arriving.Arrival.{Arrival}
use Rattle.cpm_run.specs.declared.arriving.PlayEnd.{PlayEnd}
use Rattle.cpm_run.specs.declared.arriving.PlayEnd.TheVariants as play
use Rattle.cpm_run.specs.declared.ending.Why.{Why}
use Rattle.cpm_run.specs.Play.{EndsBy, IsInOrder, IsPlayed, PlayedRunEnds, PlayEnds, PlayState, PlaysOn, first_state}
use Rattle.cpm_console.specs.Seat.{Seat}
use Rattle.cpm_run.proofs.OneSession.{Walk, same_some, walk_of}
use Rattle.cpm_run.proofs.OneSession.Walk.{begin, step, byte, show}

-- an element of a list with one more at its end
pub at_last : {A : Type 0} (xs : List A) (x y : A) (k : ℕ) → slice_get (xs ++ x ∷ []) k ≡ Some y → (slice_get xs k ≡ Some y) ⊎ ((y ≡ x) × (length xs ≤ k))
at_last [] x y zero e = inr (sym (same_some x y e), omega arith)
at_last [] x y (suc k) e = absurd cc
at_last (z ∷ xs) x y zero e = inl e
at_last (z ∷ xs) x y (suc k) e = elim (at_last xs x y k e) [
  | inl there ↦ inl there
  | inr (is, past) ↦ inr (is, let p = past in omega (arith, p))
]

none_in_order : (recorded : List Arrival) (turns : ℕ) → recorded ≡ [] → IsInOrder recorded turns
none_in_order recorded turns empty = record {
  rising = λ j k one later le here there. absurd (let none : ◌≡◌ {A = Option Arrival} None (Some one) = ap (λ l. slice_get l j) (sym empty) ∙ here in cc);
  within = λ k one here. absurd (let none : ◌≡◌ {A = Option Arrival} None (Some one) = ap (λ l. slice_get l k) (sym empty) ∙ here in cc);
}

-- one more at this number of steps
one_more : (recorded : List Arrival) (turns : ℕ) (x : Arrival) → x.turn ≡ turns → IsInOrder recorded turns → IsInOrder (recorded ++ x ∷ []) turns
one_more recorded turns x now order = record {
  rising = λ j k one later le here there. elim (at_last recorded x later k there) [
    | inl known ↦ elim (at_last recorded x one j here) [
      | inl also ↦ order.rising j k one later le also known
      | inr (is, past) ↦ absurd (let inside = slice_get_within recorded k later known in omega (arith, inside, past, le))
    ]
    | inr (late, past) ↦
        let last : later.turn ≡ turns = ap (λ (a : Arrival). a.turn) late ∙ now in
        elim (at_last recorded x one j here) [
          | inl also ↦ (let most = order.within j one also in omega (arith, most, last))
          | inr (is, beyond) ↦ (let same : one.turn ≡ turns = ap (λ (a : Arrival). a.turn) is ∙ now in omega (arith, same, last))
        ]
  ];
  within = λ k one here. elim (at_last recorded x one k here) [
    | inl also ↦ order.within k one also
    | inr (is, past) ↦ (let same : one.turn ≡ turns = ap (λ (a : Arrival). a.turn) is ∙ now in omega (arith, same))
  ];
}

later_on : (recorded : List Arrival) (turns more : ℕ) → turns ≤ more → IsInOrder recorded turns → IsInOrder recorded more
later_on recorded turns more le order = record { rising = order.rising; within = λ k one here. let most = order.within k one here in omega (arith, most, le) }

module _ {S : Type 0} (sectors : S → Image) (faults : S → ℕ) where
  pub walk_in_order : {start s : PlayState S} → start.arrivals ≡ [] → Walk sectors faults start s → IsInOrder s.arrivals s.turns
  walk_in_order {start} empty begin = none_in_order start.arrivals start.turns empty
  walk_in_order empty (step old run walk going turn) = later_on old.arrivals old.turns (old.turns + 1) (omega arith) (walk_in_order empty walk)
  walk_in_order empty (byte b old walk) = one_more old.arrivals old.turns (record { turn = old.turns; byte = b }) refl (walk_in_order empty walk)
  walk_in_order empty (show bytes old walk known) = walk_in_order empty walk

  plays_in_order : (start s : PlayState S) → start.arrivals ≡ [] → PlaysOn sectors faults start s → IsInOrder s.arrivals s.turns
  plays_in_order start s empty plays = walk_in_order empty (walk_of sectors faults plays)

  ends_by_in_order : (start s : PlayState S) (end : Why) → start.arrivals ≡ [] → EndsBy sectors faults start end s → IsInOrder s.arrivals s.turns
  ends_by_in_order start s end empty (last, plays, going, turn, count, had, shown) =
      subst (λ l. IsInOrder l s.turns) (sym had) (later_on last.arrivals last.turns s.turns (omega (arith, count)) (plays_in_order start last empty plays))

  run_in_order : (start s : PlayState S) (limit : ℕ) (end : Why) → start.arrivals ≡ [] → PlayedRunEnds sectors faults limit start end s → IsInOrder s.arrivals s.turns
  run_in_order start s limit end empty (inl h) = plays_in_order start s empty h.0
  run_in_order start s limit end empty (inr (inl h)) = plays_in_order start s empty h.0
  run_in_order start s limit end empty (inr (inr h)) = ends_by_in_order start s end empty h

  session_in_order : (start s : PlayState S) (limit : ℕ) (end : PlayEnd) → start.arrivals ≡ [] → PlayEnds sectors faults limit start end s → IsInOrder s.arrivals s.turns
  session_in_order start s limit (play.Run end) empty ends = run_in_order start s limit end empty ends
  session_in_order start s limit play.Left empty ends = plays_in_order start s empty ends.0
  session_in_order start s limit play.NoMemory empty ends = plays_in_order start s empty ends.0
  session_in_order start s limit play.Failed empty (inl plays) = plays_in_order start s empty plays
  session_in_order start s limit play.Failed empty (inr (end, ends)) = run_in_order start s limit end empty ends

  pub bytes_in_order : (file : List ℕ) (words : List (List ℕ)) (disk left : Mounted S) (limit turns pc : ℕ) (before after : Seat) (end : PlayEnd) (arrivals : List Arrival)
      → IsPlayed sectors faults file words disk limit before end turns pc left arrivals after → IsInOrder arrivals turns
  bytes_in_order file words disk left limit turns pc before after end arrivals (inl h) =
      subst (λ l. IsInOrder l turns) (sym h.9) (subst (λ n. IsInOrder h.2.arrivals n) (sym h.5) (session_in_order (first_state h.0 h.1 disk) h.2 limit end refl h.4))
  bytes_in_order file words disk left limit turns pc before after end arrivals (inr h) = none_in_order arrivals turns h.6
