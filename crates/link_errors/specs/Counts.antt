-- How many warnings there are about a program and its sources.
use Rattle.std.specs.Prelude.{◌≡◌, ℕ, ◌+◌, Bool, true, false, List, length, map, nat_lt}
use Rattle.std.specs.List.{sum_by}
use Rattle.source_warnings.specs.Calls.{AreCallWarnings}
use Rattle.source_warnings.specs.Found.{AreSourceWarnings}
use Rattle.source_warnings.specs.Warnings.{SourceWarning}
use Rattle.zmo_object.specs.Modules.{module_of}
use Rattle.source_warnings.specs.Jumps.Warnings.{all_warnings}
use Rattle.zlink.specs.Program.Faults.{first_fault}
use Rattle.zlink.specs.declared.building.Built.{Built}
use Rattle.z80dev_make.specs.Warned.{found_unless, joined}

-- how many warnings there are about the jumps of a program
abbrev pub warning_count : Built → ℕ
warning_count built = let modules = map module_of built.modules.items in length (found_unless (first_fault modules) (all_warnings (joined modules)))

-- a warning is about a line after the first `before`
abbrev pub is_behind : ℕ → SourceWarning → Bool
is_behind before w = nat_lt before w.line.number

abbrev pub one_if : Bool → ℕ
one_if true = 1
one_if false = 0

-- how many warnings about a source are about lines after the first `before`
abbrev pub own_count : ℕ → List SourceWarning → ℕ
own_count before found = sum_by (λ w. one_if (is_behind before w)) found

-- a source has this number of warnings in lines that come after the first `before`: about names, and about calls
abbrev pub HasWarnings : ℕ → List ℕ → ℕ → Type 0
HasWarnings before text count = (found calls : List SourceWarning) × AreSourceWarnings text found × AreCallWarnings text calls × (count ≡ own_count before found + own_count before calls)
