-- Values of options that are wrong: the texts with which they are refused.
use Rattle.std.specs.Prelude.{ℕ, ◌||◌, Bool, List, ◌++◌, Option, None, Some, codes, if◌then◌else◌}
use Rattle.std.specs.Borrow.{Bor}
use Rattle.std.specs.Str.{bytes_eq}
use Rattle.z80dev_commands.specs.declared.job.Explain.{Explain}
use Rattle.z80dev.specs.Values.{bad_define}
use Rattle.host.specs.Reporting.{either}

-- when a command prints in colour
abbrev pub is_color : List ℕ → Bool
is_color word = bytes_eq word (codes "always") || (bytes_eq word (codes "never") || bytes_eq word (codes "auto"))

-- the text for a value of `--color` that is not one of these words
abbrev pub bad_color : Option (Bor (List ℕ)) → Option (List ℕ)
bad_color None = None
bad_color (Some word) = if is_color word.now then None else Some (codes "BadColor(" ++ word.now ++ codes ")")

-- the text for the first value of `explain` that is wrong: a definition, then the colour
abbrev pub bad_in_explain : Explain → Option (List ℕ)
bad_in_explain explain = either (bad_define explain.shared) (bad_color explain.color)
