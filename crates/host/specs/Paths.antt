-- Paths that a command knows by their endings. It is likely that such a path was given by mistake where a command would write: an option's own path was
-- left out, say, or the image of a disk was named after the file to put on it.
use Rattle.std.specs.Prelude.{ℕ, ◌-◌, Bool, ◌||◌, List, codes, drop, length, map}
use Rattle.std.specs.Char.{to_ascii_lowercase}
use Rattle.std.specs.Str.{bytes_eq}

-- the last four bytes of a path, in lower case
abbrev pub ending_of : List ℕ → List ℕ
ending_of path = map to_ascii_lowercase (drop (length path - 4) path)

-- the path ends as that of a program or of a source does, so it is not that of an image
abbrev pub names_no_image : List ℕ → Bool
names_no_image path = bytes_eq (ending_of path) (codes ".com") || bytes_eq (ending_of path) (codes ".asm")

-- the path ends as that of a program, of a source or of an image does
abbrev pub names_work : List ℕ → Bool
names_work path = names_no_image path || bytes_eq (ending_of path) (codes ".img")
