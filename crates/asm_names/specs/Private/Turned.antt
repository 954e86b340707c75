-- How the code settles lines, one after the other.
use Rattle.std.specs.Prelude.{◌≡◌, ◌<◌, ◌==◌, ℕ, Bool, true, false, List, [], ◌∷◌, Option, Some, None, if◌then◌else◌, length, set, slice_get}
use Rattle.std.specs.List.{AllPass, list_all, list_any}
use Rattle.std.specs.Option.{option_map}
use Rattle.asm_expr.specs.declared.meaning.Meaning.{Meaning}
use Rattle.asm_expr.specs.Names.{Table, found, with_meaning}
use Rattle.asm_expr.specs.Settling.{is_known}
use Rattle.asm_spell.specs.Line.{Line, Equ, Statement}
use Rattle.asm_names.specs.declared.walk.Turn.{Turn}
use Rattle.asm_names.specs.declared.kind.Kind.{Kind}
use Rattle.asm_names.specs.Lines.{Taken}
use Rattle.asm_names.specs.Names.{Names, kind_of_name}
use Rattle.asm_names.specs.declared.equ_fault.EquFault.{EquFault}
use Rattle.asm_names.specs.declared.settling.Settling.{Settling}
use Rattle.asm_names.specs.Circles.{items_at}
use Rattle.asm_names.specs.Layout.{Layout, next_at}
use Rattle.asm_names.specs.Meanings.{after_rounds, name_meanings, equ_meaning, external_ref, equ_line_fault, table_at}
use Rattle.asm_names.specs.Private.Judged.{is_named, judged}

-- the errors of lines, with the lines' numbers
abbrev pub numbered : List Taken → List (Option EquFault) → List (Option (ℕ × EquFault))
numbered (l ∷ ls) (f ∷ fs) = option_map (λ why. (l.number, why)) f ∷ numbered ls fs
numbered _ _ = []

abbrev pub here_at : Layout → Turn → Table → Table
here_at layout turn t = record t { here = next_at layout turn.definition }

-- The line can be settled: it is one of the lines, its name is new, and the names that it uses are settled, unless one is not
-- defined or the line is on a circle.
abbrev pub CanTake : Names → Turn → Line → Settling → Type 0
CanTake names turn (Equ name e) s =
    (turn.definition < length s.faults.items) × (found s.names name ≡ None)
    × (list_all (is_named names) e ≡ true → turn.on_circle ≡ false → AllPass (is_known s.names) e)
CanTake names turn (Statement label body) s = Unit {0}

-- What holds once a line is settled.
abbrev pub Takes : Names → Layout → Turn → Line → Settling → Settling → Type 0
Takes names layout turn (Equ name e) old new =
    (new.names ≡ with_meaning name (judged names turn.on_circle (here_at layout turn old.names) e).0 (here_at layout turn old.names))
    × (new.faults.items ≡ set old.faults.items turn.definition (judged names turn.on_circle (here_at layout turn old.names) e).1)
Takes names layout turn (Statement label body) old new = new ≡ old

-- whether a line has had its turn
abbrev pub has : List Turn → ℕ → Bool
has turns at = list_any (λ t. t.definition == at) turns

-- what the name stands for that the EQU in line `at` defines, once all is settled
abbrev pub final : Names → List Taken → (ℕ → Bool) → Layout → ℕ → Meaning
final names lines circle layout at =
    equ_meaning names circle (table_at layout (after_rounds (length lines) names lines circle layout) at) at (items_at lines at)

-- what a name stands for once some lines have had their turn
abbrev pub so_far : (ℕ → Bool) → (ℕ → Meaning) → Names → Layout → List ℕ → Option Kind → Option Meaning
so_far done value names layout x (Some (Kind.Label at)) = Some (Meaning.Label (next_at layout at))
so_far done value names layout x (Some Kind.External) = Some (Meaning.External (external_ref names layout x))
so_far done value names layout x (Some (Kind.Equ at)) = if done at then Some (value at) else None
so_far done value names layout x None = None

-- The names of the lines that have had their turn are settled, and no other EQU name is.
pub record Stands (names : Names) (lines : List Taken) (circle : ℕ → Bool) (layout : Layout) (done : List Turn) (s : Settling) : Type 0 where
  pub found : (x : List ℕ) → found s.names x ≡ so_far (has done) (final names lines circle layout) names layout x (kind_of_name names x)
  pub statements : s.names.statements ≡ layout.statements
  pub many : length s.faults.items ≡ length lines
  pub faults : (at : ℕ) (l : Taken) → slice_get lines at ≡ Some l
      → slice_get s.faults.items at ≡ Some (if has done at then equ_line_fault names circle layout (name_meanings names lines circle layout) at l.line else None)
