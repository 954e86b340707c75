-- An example for which the conditions of the laws hold: `HERE: JR HERE`, assembled with --grow, and `DS 2`.
use Rattle.std.proofs.Common.{◌≡◌, ℕ, true, false, cond, refl, subst, List, [], ◌∷◌, Some, None}
use Rattle.std.specs.Prelude.{codes}
use Rattle.std.specs.List.{list_any}
use Rattle.std.specs.Str.{bytes_eq}
use Rattle.z80_instr.specs.declared.Branch.{Branch}
use Rattle.asm_parse.specs.declared.item.Item.{Item}
use Rattle.asm_parse.specs.Source.{Number}
use Rattle.asm_expr.specs.declared.meaning.Meaning.{Meaning}
use Rattle.asm_expr.specs.Types.{Statement}
use Rattle.asm_expr.specs.Distances.{is_unsized}
use Rattle.asm_expr.specs.Names.{Table, found}
use Rattle.asm_expr.specs.Origins.{is_valued_name}
use Rattle.asm_spell.specs.Line as line
use Rattle.asm_names.specs.declared.kind.Kind.{Kind}
use Rattle.asm_names.specs.Lines.{Taken}
use Rattle.asm_names.specs.Names.{Names, kind_of_name}
use Rattle.asm_module.specs.Layouts.Laid.{laid, statements}
use Rattle.asm_module.specs.Module.Stated.{first_statement_fault}

abbrev label : List ℕ
label = codes "HERE"

abbrev lines : List Taken
lines = record { number = 1; line = line.Statement (Some label) (Some (line.Short (Branch.Relative None) label)) }
    ∷ record { number = 2; line = line.Statement None (Some (line.Space (Item.Leaf (Number 2) ∷ []) None)) } ∷ []

abbrev names : Names
names = (label, Kind.Label 0) ∷ []

abbrev stand : List Statement
stand = Statement.Relaxable ∷ Statement.Sized 2 ∷ []

abbrev table : Table
table = record { entries = (label, Meaning.Label 0) ∷ []; here = 0; statements = stand }

pub they_stand : statements true table lines ≡ stand
they_stand = refl

pub no_fault : first_statement_fault names table (laid true table lines) lines ≡ None
no_fault = refl

pub all_sized : list_any is_unsized table.statements ≡ false
all_sized = refl

pub named : (name : List ℕ) → found table name ≡ None → kind_of_name names name ≡ None
named name =
    elim (bytes_eq name label) as (λ b. cond b (Some (Meaning.Label 0)) None ≡ None → cond b (Some (Kind.Label 0)) None ≡ None) [
      | true ↦ λ bad. absurd cc
      | false ↦ λ none. refl
    ]

pub values : (name : List ℕ) (what : Meaning) → found table name ≡ Some what → is_valued_name (Some what) ≡ true
values name what =
    elim (bytes_eq name label) as (λ b. cond b (Some (Meaning.Label 0)) None ≡ Some what → is_valued_name (Some what) ≡ true) [
      | true ↦ λ is. (let same : Meaning.Label 0 ≡ what = cc in subst (λ m. is_valued_name (Some m) ≡ true) same refl)
      | false ↦ λ bad. absurd cc
    ]
