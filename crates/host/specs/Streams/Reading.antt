-- How reads end.
use Rattle.std.specs.Prelude.{ℕ, Bool, true, false, Result, Ok, Err}
use Rattle.host.specs.declared.streams.input.ReadFault.{ReadFault}
use Rattle.host.specs.declared.streams.input.ReadFault.TheVariants.{Interrupted, Failed}

-- whether a read failed; a read that was interrupted did not
abbrev pub is_failure : Result ℕ ReadFault → Bool
is_failure (Ok count) = false
is_failure (Err Interrupted) = false
is_failure (Err Failed) = true

-- 1 for a read that was interrupted, otherwise 0
abbrev pub interruption_count : Result ℕ ReadFault → ℕ
interruption_count (Ok count) = 0
interruption_count (Err Interrupted) = 1
interruption_count (Err Failed) = 0
