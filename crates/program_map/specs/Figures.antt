-- How many bytes and jumps the statements of a module have.
use Rattle.std.specs.Prelude.{◌≤◌, ◌<◌, ℕ, ◌+◌, ◌-◌, ◌==◌, ◌&&◌, Bool, true, false, List, Option, Some, None, count_by, filter, length, map, slice_index}
use Rattle.std.specs.List.{enumerate_from, slice_index_or, sum_by}
use Rattle.zmo_object.specs.Modules as object
use Rattle.zmo_object.specs.Modules.{ModuleStatement}
use Rattle.program_map.specs.declared.maps.figures.Figures.{Figures}
use Rattle.program_map.specs.declared.maps.kind.Kind.{Kind}

-- A statement as a map counts it: what it is, its bytes, and whether it is a jump that may be short or long.
pub record CountedStatement : Type 0 where
  pub kind : Kind
  pub bytes : ℕ
  pub relaxable : Bool

abbrev pub is_relaxable_statement : ModuleStatement → Bool
is_relaxable_statement (object.Jump marked condition target) = true
is_relaxable_statement other = false

-- What an object file tells of a statement: whether it is space. It does not tell an instruction from data, so both are code here.
abbrev pub kind_in_object : ModuleStatement → Kind
kind_in_object (object.Space size fill) = Kind.Space
kind_in_object other = Kind.Code

-- what statement k is: by the source if that is known, otherwise by the object
abbrev pub kind_at : Option (List Kind) → ℕ → ModuleStatement → Kind
kind_at None k s = kind_in_object s
kind_at (Some kinds) k s = slice_index_or kinds k (kind_in_object s)

-- statement k has the bytes from its address to the next one's
abbrev pub counted_statement : Option (List Kind) → List ℕ → ℕ × ModuleStatement → CountedStatement
counted_statement kinds places (k, s) = record { kind = kind_at kinds k s; bytes = slice_index places (k + 1) - slice_index places k; relaxable = is_relaxable_statement s }

-- the statements of a module, given what they are, their addresses and that of their end
abbrev pub all_counted : Option (List Kind) → List ℕ → List ModuleStatement → List CountedStatement
all_counted kinds places statements = map (counted_statement kinds places) (enumerate_from 0 statements)

abbrev pub is_code_kind : Kind → Bool
is_code_kind Kind.Code = true
is_code_kind other = false

abbrev pub is_data_kind : Kind → Bool
is_data_kind Kind.Data = true
is_data_kind other = false

abbrev pub is_space_kind : Kind → Bool
is_space_kind Kind.Space = true
is_space_kind other = false

-- the bytes of the statements that are of one kind
abbrev pub bytes_that : (Kind → Bool) → List CountedStatement → ℕ
bytes_that are statements = sum_by (λ s. s.bytes) (filter (λ s. are s.kind) statements)

-- how many jumps may be short or long
abbrev pub relaxables : List CountedStatement → ℕ
relaxables statements = count_by (λ s. s.relaxable) statements

-- how many of these jumps have this many bytes
abbrev pub jumps_with : ℕ → List CountedStatement → ℕ
jumps_with bytes statements = count_by (λ s. s.relaxable && (s.bytes == bytes)) statements

-- A short jump has two bytes, a long one three.
abbrev pub figures : List CountedStatement → Figures
figures statements = record {
  code = bytes_that is_code_kind statements;
  «data» = bytes_that is_data_kind statements;
  space = bytes_that is_space_kind statements;
  jumps = relaxables statements;
  short = jumps_with 2 statements;
  long = jumps_with 3 statements;
}

-- each address but the last is at most the next one
abbrev pub Ascend : List ℕ → Type 0
Ascend places = (k : ℕ) → k + 1 < length places → slice_index places k ≤ slice_index places (k + 1)
