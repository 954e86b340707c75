-- How often a run was at each address.
use Rattle.std.specs.Prelude.{◌≡◌, ◌+◌, ◌-◌, ◌*◌, ◌^◌, ◌%◌, ◌==◌, ℕ, List, [], ◌∷◌, ◌++◌, codes, decimal, if◌then◌else◌}
use Rattle.std.specs.List.{flat_map}
use Rattle.std.specs.List.Sorted.{IsNonDecreasingBy, IsPermutation}
use Rattle.z80dev_run.specs.declared.profile.Counted.{Counted}
use Rattle.z80dev_run.specs.Labelled.{Known, nearest_label, nearest_text}
use Rattle.state_text.specs.Printing.Columns.{blanks, on_right, word_text}

-- the addresses at which steps were made, with their numbers, if the counts begin with that of address n
abbrev pub counted_rows : ℕ → List ℕ → List Counted
counted_rows n [] = []
counted_rows n (count ∷ counts) = if count == 0 then counted_rows (n + 1) counts else record { address = n % 65536; count = count } ∷ counted_rows (n + 1) counts

-- what the lines are sorted by: the greatest count comes first, and for equal counts the lowest address
abbrev pub order_of : Counted → ℕ
order_of row = (2 ^ 64 - 1 - row.count) * 65536 + row.address

abbrev pub profile_line : Known → Counted → List ℕ
profile_line known row = on_right 10 (decimal row.count) ++ blanks 1 ++ word_text row.address ++ blanks 1 ++ nearest_text (nearest_label known row.address) ++ codes "\n"

-- A profile: the number of all steps, and a line for each address at which steps were made.
abbrev pub IsProfile : Known → List ℕ → ℕ → List ℕ → Type 0
IsProfile known counts turns text =
    (rows : List Counted) × IsPermutation (counted_rows 0 counts) rows × IsNonDecreasingBy order_of rows × (text ≡ decimal turns ++ codes " steps\n" ++ flat_map (profile_line known) rows)
