-- After each round of settling, names have the same kinds, wherever the statements are.
use Rattle.std.proofs.Common.{◌≡◌, ◌∙◌, sym, ap, refl, ℕ, zero, suc, Bool, true, false, cond, List, [], ◌∷◌, Option, Some, None, Result, Ok, Err, map}
use Rattle.std.specs.Prelude.{if◌then◌else◌}
use Rattle.std.specs.List.{list_all}
use Rattle.std.specs.Map.{lookup}
use Rattle.std.specs.Str.{bytes_eq}
use Rattle.std.proofs.lemmas.Bool.{false≢true}
use Rattle.asm_parse.specs.declared.fault.ExprFault.{ExprFault}
use Rattle.asm_parse.specs.Expression as expression
use Rattle.asm_parse.specs.Expression.{postfix}
use Rattle.asm_parse.specs.Source.{Operand}
use Rattle.asm_expr.specs.declared.answer.Settled.{Settled}
use Rattle.asm_expr.specs.declared.meaning.Meaning.{Meaning}
use Rattle.asm_expr.specs.Types.{Statement}
use Rattle.asm_expr.specs.declared.unknown.Unknown.{Unknown}
use Rattle.asm_expr.specs.Equating.{constant_of, equated}
use Rattle.asm_expr.specs.Names.{Table}
use Rattle.asm_expr.specs.Origins.{AgreeOn, is_number_item}
use Rattle.asm_expr.specs.Below.{source_tree}
use Rattle.asm_expr.specs.Settling.{is_constant_item, settled, expression_size}
use Rattle.asm_expr.proofs.Equates.{equated_as}
use Rattle.asm_spell.specs.Line.{ExpressionItems}
use Rattle.asm_names.specs.declared.kind.Kind.{Kind}
use Rattle.asm_names.specs.Faults.{first, if_so}
use Rattle.asm_names.specs.Lines.{Taken}
use Rattle.asm_names.specs.Names.{Names}
use Rattle.asm_names.specs.declared.equ_fault.EquFault.{EquFault}
use Rattle.asm_names.specs.Circles.{items_at}
use Rattle.asm_names.specs.Layout.{Layout}
use Rattle.asm_names.specs.Meanings.{Entries, after_rounds, circular, equ_meaning, meaning, meaning_by, table_at, undefined, expression_fault_of}
use Rattle.asm_stmt.specs.Sized as sized
use Rattle.asm_stmt.specs.Sized.{IsLike, kind}
use Rattle.asm_stmt.proofs.Likes.{agree_like, items_like, numbers_constant, of_numbers, whole_known}

-- The laws of `asm_expr` that are used here.
pub record Laws : Type 0 where
  pub names : (t u : Table) (e : expression.Expression Operand) → AgreeOn (postfix e) t u → equated t e ≡ equated u e
  pub anywhere : (t : Table) (e : expression.Expression Operand) → list_all (is_constant_item t) (postfix e) ≡ true → (here : ℕ) (statements : List Statement)
      → equated (record t { here = here; statements = statements }) e ≡ equated t e

-- An expression of numbers has the same value by both tables.
same_equated : Laws → (t u : Table) → IsLike t u → (e : expression.Expression Operand) → list_all (is_number_item t) (postfix e) ≡ true → equated t e ≡ equated u e
same_equated laws t u like e all =
    let among = numbers_constant u (postfix e) (sym (items_like t u like (postfix e)) ∙ all) in
    laws.names t (record u { here = t.here; statements = t.statements }) e (agree_like t u like e all) ∙ laws.anywhere u e among t.here t.statements

-- Any other expression is neither a label nor a number.
neither : (t : Table) (e : expression.Expression Operand) → list_all (is_number_item t) (postfix e) ≡ false → (m : Meaning) → equated t e ≡ Ok m → kind (Some m) ≡ sized.Neither
neither t e other m is =
    let s = equated_as t e m is in
    ap (λ x. kind (Some x)) s.2 ∙ by_test (list_all (is_constant_item t) (postfix e)) refl s.0 s.1
  where
    by_test : (b : Bool) → list_all (is_constant_item t) (postfix e) ≡ b → (s : Settled) → settled t e ≡ Ok s
        → kind (Some (if b then constant_of s else Meaning.Equ (record { settled = s; size = expression_size t e }))) ≡ sized.Neither
    by_test false varies s was = refl
    by_test true constant (Settled.Known items) was =
        let whole = whole_known t e items was in
        absurd (false≢true (sym other ∙ of_numbers t e whole.0 whole.1 constant))
    by_test true constant (Settled.Unknown Unknown.Anything) was = refl
    by_test true constant (Settled.Unknown Unknown.Number) was = refl
    by_test true constant (Settled.Unknown Unknown.Varies) was = refl
    by_test true constant (Settled.Unknown Unknown.VariesInByte) was = refl

by_fault : (u : Option EquFault) (c : Bool) (r : Result Meaning ExprFault) → ((m : Meaning) → r ≡ Ok m → kind (Some m) ≡ sized.Neither)
    → kind (Some (meaning_by (first (u ∷ if_so EquFault.EquCircle c ∷ expression_fault_of r ∷ [])) r)) ≡ sized.Neither
by_fault (Some why) c r told = refl
by_fault None true r told = refl
by_fault None false (Ok m) told = told m refl
by_fault None false (Err why) told = refl

equ_like : Laws → (names : Names) (circle : ℕ → Bool) (t u : Table) → IsLike t u → (at : ℕ) (e : ExpressionItems)
    → kind (Some (equ_meaning names circle t at e)) ≡ kind (Some (equ_meaning names circle u at e))
equ_like laws names circle t u like at e = by_test (list_all (is_number_item t) (postfix (source_tree e))) refl
  where
    none : (v : Table) → list_all (is_number_item v) (postfix (source_tree e)) ≡ false → kind (Some (equ_meaning names circle v at e)) ≡ sized.Neither
    none v other = by_fault (undefined names e) (circle at) (equated v (source_tree e)) (neither v (source_tree e) other)

    by_test : (b : Bool) → list_all (is_number_item t) (postfix (source_tree e)) ≡ b → kind (Some (equ_meaning names circle t at e)) ≡ kind (Some (equ_meaning names circle u at e))
    by_test true all = ap (λ r. kind (Some (meaning_by (first (undefined names e ∷ circular circle at ∷ expression_fault_of r ∷ [])) r))) (same_equated laws t u like (source_tree e) all)
    by_test false other = none t other ∙ sym (none u (sym (items_like t u like (postfix (source_tree e))) ∙ other))

-- Two ways to give names meanings of the same kinds give each name the same kind.
found_like : (f g : List ℕ → Kind → Meaning) (p : List ℕ → Bool) → ((x : List ℕ) (k : Kind) → kind (Some (f x k)) ≡ kind (Some (g x k))) → (names : Names)
    → kind (lookup p (map (λ d. (d.0, f d.0 d.1)) names)) ≡ kind (lookup p (map (λ d. (d.0, g d.0 d.1)) names))
found_like f g p like [] = refl
found_like f g p like (d ∷ ds) =
    elim (p d.0) as (λ b. kind (cond b (Some (f d.0 d.1)) (lookup p (map (λ e. (e.0, f e.0 e.1)) ds))) ≡ kind (cond b (Some (g d.0 d.1)) (lookup p (map (λ e. (e.0, g e.0 e.1)) ds)))) [
      | true ↦ like d.0 d.1
      | false ↦ found_like f g p like ds
    ]

module _ (laws : Laws) (names : Names) (lines : List Taken) (circle : ℕ → Bool) (layout other : Layout) where
  meaning_like : (known there : Entries) → ((at : ℕ) → IsLike (table_at layout known at) (table_at other there at)) → (name : List ℕ) (k : Kind)
      → kind (Some (meaning names lines circle layout known name k)) ≡ kind (Some (meaning names lines circle other there name k))
  meaning_like known there like name (Kind.Label at) = refl
  meaning_like known there like name Kind.External = refl
  meaning_like known there like name (Kind.Equ at) = equ_like laws names circle (table_at layout known at) (table_at other there at) (like at) at (items_at lines at)

  pub like_after : (n : ℕ) (at there : ℕ) → IsLike (table_at layout (after_rounds n names lines circle layout) at) (table_at other (after_rounds n names lines circle other) there)
  like_after zero at there name = refl
  like_after (suc n) at there name =
      found_like (meaning names lines circle layout (after_rounds n names lines circle layout)) (meaning names lines circle other (after_rounds n names lines circle other)) (bytes_eq name)
      (meaning_like (after_rounds n names lines circle layout) (after_rounds n names lines circle other) (λ k. like_after n k k)) names
