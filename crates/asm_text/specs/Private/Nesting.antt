-- For each line: where a block that begins with this line ends, found from the lines after it.
use Rattle.std.specs.Prelude.{◌≡◌, ◌<◌, ◌^◌, ℕ, suc, ◌+◌, List, [], ◌∷◌, Option, Some, None, drop, length, slice_index_or, if◌then◌else◌, nat_lt}
use Rattle.std.specs.Option.{option_map}
use Rattle.asm_text.specs.declared.matching.Role.{Role}
use Rattle.asm_text.specs.declared.ends.Ends.{Ends}
use Rattle.asm_text.specs.Nesting.Blocks.{Lengths, body_length, branch_lengths}

-- how many lines these branches have, each together with the ELSE before it
abbrev pub lines_of : List ℕ → ℕ
lines_of [] = 0
lines_of (n ∷ ns) = suc (n + lines_of ns)

-- how many lines an IF has before its ENDIF
abbrev pub if_length : Lengths → ℕ
if_length lengths = lengths.0 + lines_of lengths.1

-- the line that comes n lines after line `at`; the count of all lines if there is no such n
abbrev pub reached : ℕ → ℕ → Option ℕ → ℕ
reached len at (Some n) = at + n
reached len at None = len

abbrev pub ends_at : ℕ → ℕ → Option ℕ → Option Lengths → Ends
ends_at len at body lengths = record {
  body = reached len at body;
  next = reached len at (option_map (λ l. l.0) lengths);
  last = reached len at (option_map if_length lengths);
}

-- where a block that begins with line `at` ends, given the roles of the lines from there on
abbrev pub ends_of : ℕ → ℕ → List Role → Ends
ends_of len at roles = ends_at len at (body_length 0 roles) (branch_lengths 0 0 roles)

abbrev pub no_ends : ℕ → Ends
no_ends len = record { body = len; next = len; last = len }

-- the ends for the line after `line`
abbrev pub behind : List Ends → ℕ → Ends
behind ends line = slice_index_or ends (line + 1) (no_ends (length ends))

-- the ends for line `at`, given its role and the ends for the lines after it
abbrev pub turn : Role → ℕ → List Ends → Ends
turn Role.OpensBody at ends = behind ends (behind ends at).body
turn Role.EndBody at ends = record (behind ends at) { body = at }
turn Role.OpensIf at ends = record (behind ends (behind ends at).last) { body = (behind ends at).body }
turn Role.Else at ends = if nat_lt (behind ends at).last (length ends) then record (behind ends at) { next = at } else behind ends at
turn Role.EndIf at ends = record (behind ends at) { next = at; last = at }
turn Role.Other at ends = behind ends at

-- From line `from` on, the list has the right ends for each line.
abbrev pub AreEnds : List Role → List Ends → ℕ → Type 0
AreEnds roles ends from = (k : ℕ) → slice_index_or ends (from + k) (no_ends (length roles)) ≡ ends_of (length roles) (from + k) (drop (from + k) roles)

-- The list has one entry for each line, and each is right. There are few enough lines for 32 bits.
abbrev pub IsMatched : List Role → List Ends → Type 0
IsMatched roles ends = (length roles < 2 ^ 32) × (length ends ≡ length roles) × AreEnds roles ends 0
