-- A DS whose size has an undefined name has no known size.
use Rattle.std.proofs.Common.{◌≡◌, ◌∙◌, ap, refl, Bool, true, false, cond, List, None, Result, Ok, Err}
use Rattle.std.specs.List.{AllPass, list_all}
use Rattle.std.proofs.lemmas.List.Sums.{AllPass-from_list_all}
use Rattle.asm_parse.specs.declared.fault.ExprFault.{ExprFault}
use Rattle.asm_parse.specs.declared.item.Item.{Item}
use Rattle.asm_parse.specs.Expression.{postfix}
use Rattle.asm_parse.specs.Source.{AreExpressionItems}
use Rattle.asm_expr.specs.declared.answer.Settled.{Settled}
use Rattle.asm_expr.specs.Below.{Atom}
use Rattle.asm_expr.specs.Names.{Table}
use Rattle.asm_expr.specs.Below.{source_tree}
use Rattle.asm_expr.specs.Settling.{is_constant_item, is_known, settled}
use Rattle.asm_expr.proofs.Steps.{source_whole}
use Rattle.common.specs.Results.{◌>>=◌}
use Rattle.asm_spell.specs.declared.fault.StmtFault.{StmtFault}
use Rattle.asm_spell.specs.Line.{ExpressionItems}
use Rattle.asm_stmt.specs.Fields.{as_stmt}
use Rattle.asm_stmt.specs.Made.{space_size}
use Rattle.asm_stmt.specs.Sized.{size_in}

not_all : (t : Table) (e : ExpressionItems) → (AllPass (is_known t) e → ⊥) → list_all (is_known t) e ≡ false
not_all t e lacks = elim (list_all (is_known t) e) as (λ b. list_all (is_known t) e ≡ b → b ≡ false) [
  | true ↦ λ all. absurd (lacks (AllPass-from_list_all (is_known t) e all))
  | false ↦ λ none. refl
] refl

no_number : (constant : Bool) (r : Result Settled ExprFault) → ((items : List (Item Atom)) → r ≡ Ok (Settled.Known items) → ⊥)
    → size_in (as_stmt r >>= λ s. cond constant (Ok s) (Err StmtFault.SizeNamesLabel)) ≡ None
no_number constant (Err why) none = refl
no_number true (Ok (Settled.Unknown what)) none = refl
no_number false (Ok (Settled.Unknown what)) none = refl
no_number constant (Ok (Settled.Known items)) none = absurd (none items refl)

pub unsized : (t : Table) (e : ExpressionItems) → ((items : List (Item Atom)) → list_all (is_known t) (postfix (source_tree e)) ≡ false → settled t (source_tree e) ≡ Ok (Settled.Known items) → ⊥)
    → AreExpressionItems e → (AllPass (is_known t) e → ⊥) → size_in (space_size t e) ≡ None
unsized t e lacking is lacks =
    no_number (list_all (is_constant_item t) (postfix (source_tree e))) (settled t (source_tree e)) (λ items. lacking items (ap (list_all (is_known t)) (source_whole e is) ∙ not_all t e lacks))
