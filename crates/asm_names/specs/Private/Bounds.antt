-- A bound on the lines that define names.
use Rattle.std.specs.Prelude.{◌≡◌, ◌<◌, ℕ, List, Some}
use Rattle.asm_names.specs.declared.kind.Kind.{Kind}
use Rattle.asm_names.specs.Names.{Names, kind_of_name}

-- Each name that EQU defines is defined in a line with an index less than `count`.
abbrev pub AreBelow : ℕ → Names → Type 0
AreBelow count names = (name : List ℕ) (at : ℕ) → kind_of_name names name ≡ Some (Kind.Equ at) → at < count
