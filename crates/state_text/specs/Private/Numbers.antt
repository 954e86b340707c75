-- The numbers of labels by address, from which the code finds the label of an address.
use Rattle.std.specs.Prelude.{◌≡◌, ◌<◌, ◌+◌, ◌==◌, ℕ, zero, suc, List, [], ◌∷◌, if◌then◌else◌, length, slice_index}

-- the number of the last of the labels at an address, if they are numbered from n + 1 on, or `found` if there is none
abbrev pub last_at : ℕ → ℕ → List (ℕ × List ℕ) → ℕ → ℕ
last_at found n [] address = found
last_at found n (label ∷ labels) address = last_at (if label.0 == address then n + 1 else found) (n + 1) labels address

-- the number at the highest address below this one that has a number other than 0, or 0
abbrev pub last_below : (ℕ → ℕ) → ℕ → ℕ
last_below number zero = 0
last_below number (suc address) = if number address == 0 then last_below number address else number address

-- the number of the nearest label of an address, from 1, or 0
abbrev pub nearest_number : List (ℕ × List ℕ) → ℕ → ℕ
nearest_number labels address = last_below (last_at 0 0 labels) (suc address)

-- the number of the nearest label of each address
pub record AreNumbers (labels : List (ℕ × List ℕ)) (numbers : List ℕ) : Type 0 where
  pub size : length numbers ≡ 0x10000
  pub each : (address : ℕ) → address < 0x10000 → slice_index numbers address ≡ nearest_number labels address

-- the same, if there are labels; otherwise the numbers may be any
abbrev pub AreNumbersIfAny : List (ℕ × List ℕ) → List ℕ → Type 0
AreNumbersIfAny [] numbers = Unit {0}
AreNumbersIfAny (label ∷ labels) numbers = AreNumbers (label ∷ labels) numbers
