-- What `settle_names` answers: what each name stands for, and the errors of the EQU lines.
use Rattle.std.specs.Prelude.{◌≡◌, ℕ, Bool, ◌==◌, ◌&&◌, List, Some, slice_get}
use Rattle.std.specs.List.{list_any}
use Rattle.std.specs.Map.{lookup}
use Rattle.std.specs.Str.{bytes_eq}
use Rattle.asm_expr.specs.Names.{found}
use Rattle.asm_names.specs.declared.walk.Turn.{Turn}
use Rattle.asm_names.specs.Lines.{Taken}
use Rattle.asm_names.specs.Names.{Names}
use Rattle.asm_names.specs.declared.settling.SettledNames.{SettledNames}
use Rattle.asm_names.specs.Layout.{Layout}
use Rattle.asm_names.specs.Meanings.{name_meanings, equ_line_fault, first_equ_fault}

-- whether the turns mark a line as on a circle
abbrev pub is_marked_circular : List Turn → ℕ → Bool
is_marked_circular turns at = list_any (λ t. (t.definition == at) && t.on_circle) turns

-- The answer of `settle_names` is right. Each name stands for what the definitions say, the statements are those of the layout, each
-- line has the error that it has by itself, and the error is the first of the EQU lines, with the number of its line.
pub record Settles (names : Names) (lines : List Taken) (circle : ℕ → Bool) (layout : Layout) (s : SettledNames) : Type 0 where
  pub found : (name : List ℕ) → found s.names name ≡ lookup (bytes_eq name) (name_meanings names lines circle layout)
  pub statements : s.names.statements ≡ layout.statements
  pub each : (at : ℕ) (l : Taken) → slice_get lines at ≡ Some l
      → slice_get s.faults.items at ≡ Some (equ_line_fault names circle layout (name_meanings names lines circle layout) at l.line)
  pub fault : s.fault ≡ first_equ_fault names lines circle layout
