-- The statements that lines describe depend only on what names stand for and on the sizes of the statements.
use Rattle.std.proofs.Common.{◌≡◌, ℕ, Bool, List, [], ◌∷◌, Option, Some, None, map, refl, ap}
use Rattle.std.specs.List.{filter_map}
use Rattle.std.specs.Option.{option_map}
use Rattle.std.proofs.Math.Path.{fun_ext}
use Rattle.asm_expr.specs.Names.{Table, found}
use Rattle.asm_names.specs.Faults.{first}
use Rattle.asm_names.specs.Lines.{Taken, placed}
use Rattle.asm_names.specs.Names.{Names}
use Rattle.asm_names.specs.Layout.{Layout}
use Rattle.asm_stmt.specs.Made.{made}
use Rattle.asm_spell.specs.Line as line
use Rattle.asm_spell.specs.Line.{Body, Line}
use Rattle.zmo_object.specs.Modules.{ModuleStatement}
use Rattle.asm_module.specs.declared.statements.fault.StateFault.{StateFault}
use Rattle.asm_module.specs.Module.Faults.{not_label, undefined_name, made_fault}
use Rattle.asm_module.specs.Module.Stated.{table_at_line, first_statement_fault, statement_fault, numbered_statements}
use Rattle.asm_module.specs.Module.Statements.{line_statement, of_made}

-- the law of `asm_stmt` that a statement makes the same in two tables that give its names the same meanings
abbrev pub ByNames : Type 0
ByNames = (t u : Table) (b : Body) → ((name : List ℕ) → found t name ≡ found u name) → t.here ≡ u.here → t.statements ≡ u.statements → made t b ≡ made u b

module _ (by : ByNames) (layout : Layout) (t u : Table) (names_same : (name : List ℕ) → found t name ≡ found u name) (statements_same : t.statements ≡ u.statements) where
  same_made : (at : ℕ) (b : Body) → made (table_at_line layout t at) b ≡ made (table_at_line layout u at) b
  same_made at b = by (table_at_line layout t at) (table_at_line layout u at) b names_same refl statements_same

  same_fault : (names : Names) (at : ℕ) (l : Line) → statement_fault names (table_at_line layout t at) l ≡ statement_fault names (table_at_line layout u at) l
  same_fault names at (line.Statement label (Some body)) = ap (λ r. first (undefined_name names body ∷ made_fault r ∷ not_label names body ∷ [])) (same_made at body)
  same_fault names at (line.Statement label None) = refl
  same_fault names at (line.Equ name e) = refl

  same_statement : (grow : Bool) (at : ℕ) (l : Line) → line_statement grow (table_at_line layout t at) l ≡ line_statement grow (table_at_line layout u at) l
  same_statement grow at (line.Statement label (Some body)) = ap (of_made grow) (same_made at body)
  same_statement grow at (line.Statement label None) = refl
  same_statement grow at (line.Equ name e) = refl

  pub faults_alike : (names : Names) (lines : List Taken) → first_statement_fault names t layout lines ≡ first_statement_fault names u layout lines
  faults_alike names lines =
      ap (λ (f : ℕ × Taken → Option (ℕ × StateFault)). first (map f (placed lines))) (fun_ext (λ l. ap (option_map (λ why. (l.1.number, why))) (same_fault names l.0 l.1.line)))

  pub statements_alike : (grow : Bool) (lines : List Taken) → numbered_statements grow t layout lines ≡ numbered_statements grow u layout lines
  statements_alike grow lines =
      ap (λ (f : ℕ × Taken → Option (ℕ × ModuleStatement)). filter_map f (placed lines)) (fun_ext (λ l. ap (option_map (λ s. (l.1.number, s))) (same_statement grow l.0 l.1.line)))
