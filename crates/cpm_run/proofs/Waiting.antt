-- How often a session waited.
use Rattle.std.proofs.Common.{◌≡◌, ◌≤◌, ◌+◌, ◌++◌, ◌∷◌, [], ℕ, Bool, List, Result, refl, ap, arith}
use Rattle.std.proofs.lemmas.Bool.{eq-eqb}
use Rattle.std.specs.Prelude.{◌==◌, if◌then◌else◌}
use Rattle.cpm_run.specs.Looks.{waits_after}
use Rattle.cpm_run.specs.Private.Playing.{waited}
use Rattle.cpm_console.specs.Seat.{SeatEvent}
use Rattle.cpm_console.specs.declared.station.Came.{Came}
use Rattle.cpm_console.specs.declared.station.Patience.{Patience}
use Rattle.cpm_console.specs.declared.station.Patience.TheVariants as how
use Rattle.cpm_console.specs.declared.station.StationFault.{StationFault}

one_wait : (n : ℕ) (patience : Patience) (answer : Result Came StationFault) → waits_after n (SeatEvent.asked n patience answer ∷ []) ≡ waited patience
one_wait n how.Wait answer = ap (λ (here : Bool). (if here then 1 else 0) + 0) (eq-eqb n n refl)
one_wait n how.Poll answer = refl
one_wait n how.Glance answer = refl

one_of_more : (here more new all : ℕ) → all ≡ more + new → here + all ≡ here + more + new
one_of_more here more new all is = omega (arith, is)

-- one more look
pub waits_asked : (n : ℕ) (patience : Patience) (answer : Result Came StationFault) (events : List SeatEvent) → waits_after n (events ++ SeatEvent.asked n patience answer ∷ []) ≡ waits_after n events + waited patience
waits_asked n patience answer [] = let one = one_wait n patience answer in omega (arith, one)
waits_asked n patience answer (SeatEvent.asked m how.Wait other ∷ more) = one_of_more (if m == n then 1 else 0) (waits_after n more) (waited patience) _ (waits_asked n patience answer more)
waits_asked n patience answer (SeatEvent.asked m how.Poll other ∷ more) = waits_asked n patience answer more
waits_asked n patience answer (SeatEvent.asked m how.Glance other ∷ more) = waits_asked n patience answer more
waits_asked n patience answer (SeatEvent.showed bytes ∷ more) = waits_asked n patience answer more
waits_asked n patience answer (SeatEvent.not_showed bytes ∷ more) = waits_asked n patience answer more

-- what is shown is no look
waits_showed : (n : ℕ) (bytes : List ℕ) (events : List SeatEvent) → waits_after n (events ++ SeatEvent.showed bytes ∷ []) ≡ waits_after n events
waits_showed n bytes [] = refl
waits_showed n bytes (SeatEvent.asked m how.Wait other ∷ more) = ap (λ (k : ℕ). (if m == n then 1 else 0) + k) (waits_showed n bytes more)
waits_showed n bytes (SeatEvent.asked m how.Poll other ∷ more) = waits_showed n bytes more
waits_showed n bytes (SeatEvent.asked m how.Glance other ∷ more) = waits_showed n bytes more
waits_showed n bytes (SeatEvent.showed other ∷ more) = waits_showed n bytes more
waits_showed n bytes (SeatEvent.not_showed other ∷ more) = waits_showed n bytes more

pub as_often : (n : ℕ) (bytes : List ℕ) (events : List SeatEvent) → waits_after n events ≤ waits_after n (events ++ SeatEvent.showed bytes ∷ [])
as_often n bytes events = let same = waits_showed n bytes events in omega (arith, same)
