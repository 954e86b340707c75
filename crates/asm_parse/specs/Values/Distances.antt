-- How far apart statements are.
-- In words: docs/LANGUAGE.md, section 'What is known when'.
use Rattle.std.specs.Prelude.{◌≡◌, ℕ, suc, ◌+◌, ◌-◌, ◌%◌, ◌||◌, Bool, true, false, List, Some, if◌then◌else◌, length, take, drop, slice_get, nat_lt, nat_le}
use Rattle.std.specs.List.{list_any, sum_by}
use Rattle.asm_parse.specs.declared.values.statement.Statement.{Statement}
use Rattle.asm_parse.specs.declared.values.worth.Worth.{Worth}
use Rattle.asm_parse.specs.Values.Arithmetic.{modulus}

abbrev pub is_relaxable : Statement → Bool
is_relaxable Statement.Relaxable = true
is_relaxable _ = false

abbrev pub is_unsized : Statement → Bool
is_unsized Statement.Unsized = true
is_unsized _ = false

abbrev pub statement_bytes : Statement → ℕ
statement_bytes (Statement.Sized n) = n
statement_bytes _ = 0

-- The statements from number `low` to the one before number `high`. A jump at `low` is among them, and one at `high` is not.
abbrev pub statements_between : List Statement → ℕ → ℕ → List Statement
statements_between statements low high = take (high - low) (drop low statements)

-- How many bytes statements take, modulo 65,536. It varies if a relaxable jump is among them, and otherwise is not known if a size
-- is not known.
abbrev pub bytes_taken : List Statement → Worth
bytes_taken statements = if list_any is_relaxable statements then Worth.Varies else if list_any is_unsized statements then Worth.Unknown else Worth.Number (sum_by statement_bytes statements % modulus)

abbrev pub backwards : Worth → Worth
backwards (Worth.Number n) = Worth.Number ((modulus - n) % modulus)
backwards other = other

-- How far statement p is after statement q, modulo 65,536. A number past the end is that of an external, which has no distance from
-- others.
abbrev pub distance : List Statement → ℕ → ℕ → Worth
distance statements p q =
    if nat_lt (length statements) p || nat_lt (length statements) q then Worth.Varies
    else if nat_le q p then bytes_taken (statements_between statements q p) else backwards (bytes_taken (statements_between statements p q))

-- How far statement p is from an address that is not known.
abbrev pub some_distance : List Statement → ℕ → Worth
some_distance statements p = if nat_lt (length statements) p then Worth.Varies else Worth.Unknown

-- The addresses step by each known size, modulo 65,536. Those of any choice of jumps do, from any beginning.
abbrev pub Step : List Statement → (ℕ → ℕ) → Type 0
Step statements places = (k n : ℕ) → slice_get statements k ≡ Some (Statement.Sized n) → places (suc k) % modulus ≡ (places k + n) % modulus
