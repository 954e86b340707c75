-- What the refs of one module stand for, by the links that `join` made.
use Rattle.std.specs.Prelude.{ℕ, ◌+◌, ◌-◌, ◌<◌, ◌≤◌, List, ◌++◌, if◌then◌else◌, length, map, nat_le, slice_index, slice_range}
use Rattle.common.specs.declared.limits.TheConstants.{MOST_BYTES}
use Rattle.zmo_object.specs.Modules as object
use Rattle.zmo_object.specs.Modules.{ModuleStatement}

-- for refs up to `count`, a statement of the module or its end; for the refs after that, its externals
abbrev pub stands_by : ℕ → ℕ → List ℕ → ℕ → ℕ
stands_by count base externals ref = if nat_le ref count then base + ref else slice_index externals (ref - (count + 1))

-- the addresses of all refs
abbrev pub table_of : ℕ → ℕ → List ℕ → List ℕ → List ℕ
table_of count base externals places = slice_range places base (base + count + 1) ++ map (slice_index places) externals

-- its size and target can be computed: it has few enough bytes, and its target is a ref below `refs`
abbrev pub IsSizable : ℕ → ModuleStatement → Type 0
IsSizable refs (object.Bytes bytes holes) = length bytes ≤ MOST_BYTES
IsSizable refs (object.Jump marked condition target) = target < refs
IsSizable refs (object.Short branch target) = target < refs
IsSizable refs (object.Space size fill) = Unit {0}
