-- The bytes that pass between a console and the program that uses it.
use Rattle.std.specs.Prelude.{◌≡◌, ℕ, List, [], ◌∷◌, ◌++◌, Option, Some}
use Rattle.std.specs.Io.KnownBytes.{Appends}

-- A console as its user sees it: the bytes that are still to be taken, the bytes that were put if they are known, and the number of its
-- faults.
pub record Dialog : Type 0 where
  pub input : List ℕ
  pub output : Option (List ℕ)
  pub faults : ℕ

abbrev pub dialog_of : List ℕ → Option (List ℕ) → ℕ → Dialog
dialog_of input output faults = record { input = input; output = output; faults = faults }

-- these bytes were typed after those that are still to be taken
abbrev pub typed_in : List ℕ → Dialog → Dialog
typed_in bytes d = record d { input = d.input ++ bytes }

-- the bytes that were put are forgotten
abbrev pub output_cleared : Dialog → Dialog
output_cleared d = record d { output = Some [] }

-- one byte that passes
pub data Event : Type 0 where
  Took : ℕ → Event
  Put : ℕ → Event

-- the bytes that were taken, and those that were put
abbrev pub taken_by : List Event → List ℕ
taken_by [] = []
taken_by (Took b ∷ events) = b ∷ taken_by events
taken_by (Put b ∷ events) = taken_by events

abbrev pub put_by : List Event → List ℕ
put_by [] = []
put_by (Took b ∷ events) = put_by events
put_by (Put b ∷ events) = b ∷ put_by events

-- Exactly these events passed, in this order.
pub record Passes (old new : Dialog) (events : List Event) : Type 0 where
  pub input : old.input ≡ taken_by events ++ new.input
  pub output : Appends old.output new.output (put_by events)

-- the same, and the console did not fail
pub record PassesUnfailed (old new : Dialog) (events : List Event) : Type 0 where
  pub passed : Passes old new events
  pub unfailed : new.faults ≡ old.faults
