-- What the code keeps about the statements before an address.
use Rattle.std.specs.Prelude.{◌≡◌, ℕ, ◌+◌, ◌-◌, ◌%◌, ◌==◌, List, Some, if◌then◌else◌, map, take, slice_get}
use Rattle.std.specs.List.{count_by, sum_by}
use Rattle.asm_parse.specs.declared.values.statement.Statement.{Statement}
use Rattle.asm_parse.specs.declared.values.worth.Worth.{Worth}
use Rattle.asm_parse.specs.declared.values.layout.Before.{Before}
use Rattle.asm_parse.specs.declared.values.layout.Passed.{Passed}
use Rattle.asm_parse.specs.Values.Arithmetic.{modulus}
use Rattle.asm_parse.specs.Values.Distances.{is_relaxable, is_unsized, statement_bytes}

pub record IsBefore (statements : List Statement) (before : Before) : Type 0 where
  pub bytes : before.bytes ≡ sum_by statement_bytes statements % modulus
  pub relaxable : before.relaxable ≡ count_by is_relaxable statements
  pub unknown : before.unknown ≡ count_by is_unsized statements

abbrev pub statements_of : List Passed → List Statement
statements_of passed = map (λ p. p.statement) passed

pub record AreSummed (passed : List Passed) (end : Before) : Type 0 where
  pub each : (k : ℕ) (p : Passed) → slice_get passed k ≡ Some p → IsBefore (take k (statements_of passed)) p.before
  pub all : IsBefore (statements_of passed) end

abbrev pub gap : Before → Before → Worth
gap p q = if p.relaxable == q.relaxable then (if p.unknown == q.unknown then Worth.Number ((p.bytes + (modulus - q.bytes)) % modulus) else Worth.Unknown) else Worth.Varies
