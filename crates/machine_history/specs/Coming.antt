-- The bytes of a record that are still to come.
use Rattle.std.specs.Prelude.{ℕ, List, nat_le, nat_lt, take_while}
use Rattle.cpm_run.specs.declared.arriving.Arrival.{Arrival}

-- The bytes that are due after a number of turns: those at the front whose numbers are not above it.
abbrev pub due : ℕ → List Arrival → List Arrival
due turns coming = take_while (λ arrival. nat_le arrival.turn turns) coming

-- the bytes that came before the last of this number of turns was made: those at the front of the record whose numbers are lower
abbrev pub came_before : ℕ → List Arrival → List Arrival
came_before turns recorded = take_while (λ arrival. nat_lt arrival.turn turns) recorded
