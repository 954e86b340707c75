-- The jumps of a list of statements that were written as JR and are long.
use Rattle.std.specs.Prelude.{ℕ, ◌&&◌, List, Option, Some, None, if◌then◌else◌}
use Rattle.std.specs.List.{enumerate_from, filter_map}
use Rattle.relax.specs.Choice.{Choice}
use Rattle.zmo_object.specs.Modules.{ModuleStatement}
use Rattle.zlink.specs.File.Objects.{is_marked}

abbrev pub marked_at : Choice → ℕ × ModuleStatement → Option ℕ
marked_at c (k, s) = if is_marked s && c k then Some k else None

-- the numbers of those jumps; the first statement has the number `first`
abbrev pub marked_from : Choice → ℕ → List ModuleStatement → List ℕ
marked_from c first statements = filter_map (marked_at c) (enumerate_from first statements)
