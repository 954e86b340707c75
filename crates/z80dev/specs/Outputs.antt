-- Which files a command writes, and why it may not write them.
use Rattle.std.specs.Prelude.{ℕ, ◌-◌, ◌==◌, ◌&&◌, not, Bool, true, List, [], ◌∷◌, Option, None, Some, codes, drop, find, if◌then◌else◌, length, map, option_map, slice_get, take}
use Rattle.std.specs.Borrow.{Bor}
use Rattle.std.specs.List.{list_any}
use Rattle.std.specs.Option.{option_map_or}
use Rattle.std.specs.Path.{dot, rfind_below, slash}
use Rattle.host.specs.Finishing.{path_of}
use Rattle.host.specs.SamePath.{is_same_path}
use Rattle.host.specs.declared.answer.Kind.{Kind}
use Rattle.host.specs.Ending.{over_text}

-- the first of the paths with this base that names one of the files that are read
abbrev pub overwritten : List ℕ → List Kind → List (List ℕ) → Option (List ℕ)
overwritten base kinds read = find (λ path. list_any (is_same_path path) read) (map (path_of base) kinds)

-- Why a command may not write files of these kinds with this base: the base is empty, or one of them is a file that is read.
abbrev pub why_not_written : List ℕ → List Kind → List (List ℕ) → Option (List ℕ)
why_not_written [] kinds read = Some (codes "NoBase")
why_not_written (byte ∷ more) kinds read = option_map over_text (overwritten (byte ∷ more) kinds read)

-- a path ends where the name of a file begins: it is empty, or its last byte is a slash
abbrev pub ends_before_name : List ℕ → Bool
ends_before_name path = option_map_or (λ byte. byte == slash) (slice_get path (length path - 1)) true

-- An ending begins at a point of a path, by what comes before it and by the rest: no slash comes after the point, and it does not begin the name
-- of the file.
abbrev pub begins_ending : List ℕ → List ℕ → Bool
begins_ending before rest = not (list_any (λ byte. byte == slash) rest) && not (ends_before_name before)

-- what comes before the last point of a path, if an ending begins there
abbrev pub before_last_point : List ℕ → Option ℕ → List ℕ
before_last_point path None = path
before_last_point path (Some point) = if begins_ending (take point path) (drop point path) then take point path else path

-- a path without its ending
abbrev pub without_ending : List ℕ → List ℕ
without_ending path = before_last_point path (rfind_below dot path (length path))

-- the base that is given; otherwise the path of the first source or object without its ending
abbrev pub base_of : Option (Bor (List ℕ)) → List (List ℕ) → List ℕ
base_of (Some out) read = out.now
base_of None (first ∷ others) = without_ending first
base_of None [] = []
