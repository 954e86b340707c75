-- The file of a session at a keyboard: the bytes that came, each after a number of steps.
use Rattle.std.specs.Prelude.{◌≡◌, ◌++◌, ◌∷◌, ◌<◌, ◌^◌, [], ℕ, All, List, codes, decimal}
use Rattle.std.specs.List.{flat_map}
use Rattle.hex.specs.Hex.{encode_upper}
use Rattle.cpm_run.specs.Play.{IsInOrder}
use Rattle.cpm_run.specs.declared.arriving.Arrival.{Arrival}

-- a line for each byte that came: the number of steps before it, and the byte in hexadecimal
abbrev pub arrival_line : Arrival → List ℕ
arrival_line arrival = decimal arrival.turn ++ codes " " ++ encode_upper (arrival.byte ∷ []) ++ codes "\n"

-- the line of the end: the number of steps, and the word END
abbrev pub closing_line : ℕ → List ℕ
closing_line turns = decimal turns ++ codes " END\n"

abbrev pub record_text : List Arrival → ℕ → List ℕ
record_text arrivals turns = flat_map arrival_line arrivals ++ closing_line turns

-- The number of steps has at most 64 bits, and the byte has 8.
abbrev pub HasWidths : Arrival → Type 0
HasWidths arrival = (arrival.turn < 2 ^ 64) × (arrival.byte < 256)

-- This is the text of a record, and its numbers of steps do not go down.
pub record IsRecord (text : List ℕ) (arrivals : List Arrival) (last : ℕ) : Type 0 where
  pub is : text ≡ record_text arrivals last
  pub order : IsInOrder arrivals last

-- This is the text of no record whose numbers of steps have at most 64 bits and whose bytes have 8.
abbrev pub IsNoRecord : List ℕ → Type 0
IsNoRecord text = (arrivals : List Arrival) (last : ℕ) → All HasWidths arrivals → last < 2 ^ 64 → ¬ IsRecord text arrivals last
