-- What the names of a source stand for, whatever the order of its lines, and which errors EQU lines have. `circle` says of each line, by its
-- index from 0, whether its EQU leads back to itself.
-- In words: docs/LANGUAGE.md, section 'EQU'.
use Rattle.std.specs.Prelude.{ℕ, zero, suc, ◌+◌, Bool, List, [], ◌∷◌, Option, Some, None, Result, Ok, Err, map, length, is_none}
use Rattle.std.specs.Option.{option_map, unwrap_or}
use Rattle.std.specs.List.{filter_map, list_any, position_from}
use Rattle.std.specs.Str.{bytes_eq}
use Rattle.asm_parse.specs.declared.fault.ExprFault.{ExprFault}
use Rattle.asm_expr.specs.declared.meaning.Meaning.{Meaning}
use Rattle.asm_expr.specs.Equating.{equated}
use Rattle.asm_expr.specs.Names.{Table}
use Rattle.asm_expr.specs.Below.{source_tree}
use Rattle.asm_spell.specs.Line.{ExpressionItems, Line, Equ}
use Rattle.asm_names.specs.declared.kind.Kind.{Kind}
use Rattle.asm_names.specs.Faults.{first, if_so}
use Rattle.asm_names.specs.Lines.{Taken, placed}
use Rattle.asm_names.specs.Names.{Names, kind_of_name}
use Rattle.asm_names.specs.declared.equ_fault.EquFault.{EquFault}
use Rattle.asm_names.specs.Circles.{items_at, names_in}
use Rattle.asm_names.specs.Layout.{Layout, next_at}

-- names, and what each stands for
abbrev pub Entries : Type 0
Entries = List (List ℕ × Meaning)

-- what names and `$` stand for in the line with index `at`, from 0
abbrev pub table_at : Layout → Entries → ℕ → Table
table_at layout entries at = record { entries = entries; here = next_at layout at; statements = layout.statements }

-- The errors of an EQU line, given what names stand for, in the order in which they are reported.

-- the expression uses a name that is not defined anywhere
abbrev pub undefined : Names → ExpressionItems → Option EquFault
undefined names e = if_so EquFault.Undefined (list_any (λ name. is_none (kind_of_name names name)) (names_in e))

-- the line leads back to itself
abbrev pub circular : (ℕ → Bool) → ℕ → Option EquFault
circular circle at = if_so EquFault.EquCircle (circle at)

-- the error with which an expression is refused, if it is
abbrev pub expression_fault_of : {A : Type 0} → Result A ExprFault → Option EquFault
expression_fault_of (Ok what) = None
expression_fault_of (Err why) = Some (EquFault.Expr why)

-- the expression has no value: it has an error of its own, or a value in it is not allowed there
abbrev pub expression_fault : Table → ExpressionItems → Option EquFault
expression_fault t e = expression_fault_of (equated t (source_tree e))

-- the first error of the EQU in line `at`
abbrev pub equ_fault : Names → (ℕ → Bool) → Table → ℕ → ExpressionItems → Option EquFault
equ_fault names circle t at e = first (undefined names e ∷ circular circle at ∷ expression_fault t e ∷ [])

-- What a name stands for.

abbrev pub meaning_by : Option EquFault → Result Meaning ExprFault → Meaning
meaning_by None (Ok what) = what
meaning_by _ _ = Meaning.Faulty

-- what a name stands for that EQU defines: the value of the expression, if the line has no error
abbrev pub equ_meaning : Names → (ℕ → Bool) → Table → ℕ → ExpressionItems → Meaning
equ_meaning names circle t at e = meaning_by (equ_fault names circle t at e) (equated t (source_tree e))

abbrev pub external_in : List ℕ × Kind → Option (List ℕ)
external_in (name, Kind.External) = Some name
external_in _ = None

-- the externals, in the order in which they are first declared
abbrev pub externals : Names → List (List ℕ)
externals names = filter_map external_in names

-- the ref of an external: of S statements, those are refs 0 to S - 1, their end is S, and the first external is S + 1 (`unwrap_or` never needs
-- its 0, since the name is an external)
abbrev pub external_ref : Names → Layout → List ℕ → ℕ
external_ref names layout name = (length layout.statements + 1) + unwrap_or (position_from (bytes_eq name) 0 (externals names)) 0

-- what a name stands for, given what is known about all names
abbrev pub meaning : Names → List Taken → (ℕ → Bool) → Layout → Entries → List ℕ → Kind → Meaning
meaning names lines circle layout known name (Kind.Label at) = Meaning.Label (next_at layout at)
meaning names lines circle layout known name Kind.External = Meaning.External (external_ref names layout name)
meaning names lines circle layout known name (Kind.Equ at) = equ_meaning names circle (table_at layout known at) at (items_at lines at)

-- What is known about names after some rounds. Before the first round nothing is known: each name counts as one whose line has an error.
-- Each round finds what every name stands for from what was known before it.
abbrev pub after_rounds : ℕ → Names → List Taken → (ℕ → Bool) → Layout → Entries
after_rounds zero names lines circle layout = map (λ d. (d.0, Meaning.Faulty)) names
after_rounds (suc n) names lines circle layout = map (λ d. (d.0, meaning names lines circle layout (after_rounds n names lines circle layout) d.0 d.1)) names

-- What names stand for: what is known after one round more than there are lines. Further rounds change nothing: each settles one more level
-- of names, without a circle there are no more levels than lines, and lines on a circle never get a value.
abbrev pub name_meanings : Names → List Taken → (ℕ → Bool) → Layout → Entries
name_meanings names lines circle layout = after_rounds (suc (length lines)) names lines circle layout

-- The errors of lines.

abbrev pub equ_line_fault : Names → (ℕ → Bool) → Layout → Entries → ℕ → Line → Option EquFault
equ_line_fault names circle layout known at (Equ name e) = equ_fault names circle (table_at layout known at) at e
equ_line_fault names circle layout known at _ = None

-- The first error of the EQU lines, in their order, with the number of its line in the source, from 1.
abbrev pub first_equ_fault : Names → List Taken → (ℕ → Bool) → Layout → Option (ℕ × EquFault)
first_equ_fault names lines circle layout =
    first (map (λ l. option_map (λ why. (l.1.number, why)) (equ_line_fault names circle layout (name_meanings names lines circle layout) l.0 l.1.line)) (placed lines))
