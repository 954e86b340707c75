-- A name that EQU defines is defined in one of the lines.
use Rattle.std.proofs.Common.{◌≡◌, ◌<◌, refl, ℕ, List, Option, Some, None, length}
use Rattle.std.proofs.lemmas.Option.{slice_get_within}
use Rattle.asm_names.specs.declared.kind.Kind.{Kind}
use Rattle.asm_names.specs.Lines.{Taken}
use Rattle.asm_names.specs.Names.{Names, kind_of_name, names}
use Rattle.asm_names.proofs.Given.{names_given}
use Rattle.asm_parse.specs.declared.item.Item.{Item}
use Rattle.asm_parse.specs.Source.{Operand, Number, Name, Here}
use Rattle.asm_names.specs.Circles.{equ_line, line_named}
use Rattle.asm_names.specs.Private.Bounds.{AreBelow}

pub names_below : (lines : List Taken) → AreBelow (length lines) (names lines)
names_below lines name at is = let given = names_given lines name at is in slice_get_within lines at given.0 given.1

by_kind : (n : ℕ) (names : Names) (name : List ℕ) (at : ℕ) → AreBelow n names → (k : Option Kind) → kind_of_name names name ≡ k → equ_line k ≡ Some at → at < n
by_kind n names name at below None is line = cc
by_kind n names name at below (Some (Kind.Label l)) is line = cc
by_kind n names name at below (Some Kind.External) is line = cc
by_kind n names name at below (Some (Kind.Equ e)) is line = (let same : e ≡ at = cc in rw same at (below name e is))

pub line_below : (n : ℕ) (names : Names) (item : Item Operand) (at : ℕ) → AreBelow n names → line_named names item ≡ Some at → at < n
line_below n names (Item.Leaf (Number v)) at below is = cc
line_below n names (Item.Leaf (Name name)) at below is = by_kind n names name at below (kind_of_name names name) refl is
line_below n names (Item.Leaf Here) at below is = cc
line_below n names (Item.Unary op) at below is = cc
line_below n names (Item.Binary op) at below is = cc
