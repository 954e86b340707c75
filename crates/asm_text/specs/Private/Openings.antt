-- How the first line of a macro's body decides how the body is opened.
use Rattle.std.specs.Prelude.{◌≡◌, Bool, true, false, ℕ, List, [], ◌∷◌, Some, None}
use Rattle.asm_line.specs.declared.forms.BlockWord.{BlockWord}
use Rattle.asm_line.specs.Forms as line
use Rattle.asm_line.specs.Replacing.Views as replaced
use Rattle.asm_text.specs.declared.open.Local.{Local}
use Rattle.asm_text.specs.Calls.{opened, with_locals}

-- What the code found in the first line is right, whatever lines follow: LOCAL names, a malformed LOCAL line, or no LOCAL line.
abbrev pub IsLocal : List ℕ → Local → Type 0
IsLocal text (Local.Names names) = (more : List (List ℕ)) → opened (text ∷ more) ≡ with_locals (Some (replaced.texts names.items)) (opened more)
IsLocal text Local.Bad = (more : List (List ℕ)) → opened (text ∷ more) ≡ None
IsLocal text Local.Other = (more : List (List ℕ)) → opened (text ∷ more) ≡ Some (record { locals = []; lines = text ∷ more })

abbrev pub is_local : line.Head → Bool
is_local (line.Block BlockWord.Local) = true
is_local head = false
