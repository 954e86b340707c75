-- How the code tests a name.
use Rattle.std.specs.Prelude.{◌==◌, ◌&&◌, ℕ, Bool, false, List, [], ◌∷◌}
use Rattle.std.specs.List.{list_all}
use Rattle.std.specs.Char.{to_ascii_uppercase}
use Rattle.asm_line.specs.Classes.{begins_name, continues_name}

abbrev pub is_one_name : List ℕ → Bool
is_one_name [] = false
is_one_name (b ∷ more) = begins_name b && list_all continues_name more

abbrev pub is_upper : List ℕ → Bool
is_upper text = list_all (λ b. to_ascii_uppercase b == b) text
