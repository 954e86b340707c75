-- Whether two paths name one file, as far as their text says.
use Rattle.std.specs.Prelude.{ℕ, ◌==◌, ◌&&◌, Bool, true, false, List, [], ◌∷◌, ◌++◌, if◌then◌else◌, slice_index}
use Rattle.std.specs.Path.{path_names, root_dir, slash}
use Rattle.std.specs.Str.{bytes_eq}

-- The parts of a path: the root, if it begins with a slash, and the names between its slashes. A single point is no part: it names the folder
-- that comes before it.
abbrev pub path_parts : List ℕ → List (List ℕ)
path_parts path = (if slice_index path 0 == slash then root_dir ∷ [] else []) ++ path_names path

-- the same parts in the same order
abbrev pub are_same_parts : List (List ℕ) → List (List ℕ) → Bool
are_same_parts [] [] = true
are_same_parts (part ∷ parts) (other ∷ others) = bytes_eq part other && are_same_parts parts others
are_same_parts _ _ = false

abbrev pub is_same_path : List ℕ → List ℕ → Bool
is_same_path path other = are_same_parts (path_parts path) (path_parts other)
