-- The test whether names stand for something, and the fact that they do.
use Rattle.std.proofs.Common.{◌≡◌, ◌≢◌, ◌↔◌, Bool, true, false, ◌&&◌, List, Option, Some, None, All, is_some, refl, sym}
use Rattle.std.specs.List.{list_all}
use Rattle.std.specs.Option.{IfSome}
use Rattle.std.proofs.lemmas.List.Elements.{All-weaker}
use Rattle.std.proofs.lemmas.List.Sums.{AllPass-from_list_all, list_all-from_AllPass}
use Rattle.asm_expr.specs.Names.{Table, found}
use Rattle.asm_expr.specs.Settling.{is_known}
use Rattle.asm_spell.specs.Line as line
use Rattle.asm_spell.specs.Line.{Body, ExpressionItems, Value}
use Rattle.asm_stmt.specs.Made.{AreDefined, IsDefined, ValueDefined}
use Rattle.asm_stmt.specs.Private.Defined.{fill_defined, is_defined, operands_defined, value_defined}

-- Two tests are equal if each is true when the other is.
pub by_fact : (a b : Bool) → (a ≡ true → b ≡ true) → (b ≡ true → a ≡ true) → a ≡ b
by_fact true true there back = refl
by_fact true false there back = sym (there refl)
by_fact false true there back = back refl
by_fact false false there back = refl

each_passes : {A : Type 0} (p : A → Bool) (P : A → Type 0) → ((x : A) → (p x ≡ true) ↔ P x) → (xs : List A) → (list_all p xs ≡ true) ↔ All P xs
each_passes p P is xs = (
  λ all. All-weaker (λ x. p x ≡ true) P (λ x. (is x).0) xs (AllPass-from_list_all p xs all),
  λ all. list_all-from_AllPass p xs (All-weaker P (λ x. p x ≡ true) (λ x. (is x).1) xs all),
)

tree_passes : (t : Table) (e : ExpressionItems) → (is_defined t e ≡ true) ↔ IsDefined t e
tree_passes t e = (AllPass-from_list_all (is_known t) e, list_all-from_AllPass (is_known t) e)

value_passes : (t : Table) (v : Value) → (value_defined t v ≡ true) ↔ ValueDefined t v
value_passes t (line.Text text) = (λ _. tt, λ _. refl)
value_passes t (line.Byte e) = tree_passes t e

found_passes : {A : Type 0} (o : Option A) → (is_some o ≡ true) ↔ (o ≢ None)
found_passes None = (λ bad. cc, λ none. absurd (none refl))
found_passes (Some x) = (λ _ bad. cc, λ _. refl)

both_pass : (a b : Bool) (P Q : Type 0) → (a ≡ true) ↔ P → (b ≡ true) ↔ Q → ((a && b) ≡ true) ↔ (P × Q)
both_pass true b P Q p q = (λ h. (p.0 refl, q.0 h), λ h. q.1 h.1)
both_pass false b P Q p q = (λ h. cc, λ h. p.1 h.0)

fill_passes : (t : Table) (fill : Option ExpressionItems) → (fill_defined t fill ≡ true) ↔ IfSome fill (IsDefined t)
fill_passes t None = (λ _. tt, λ _. refl)
fill_passes t (Some e) = tree_passes t e

pub passes : (t : Table) (b : Body) → (operands_defined t b ≡ true) ↔ AreDefined t b
passes t (line.Code instr numbers) = each_passes (λ n. is_defined t n.1) (λ n. IsDefined t n.1) (λ n. tree_passes t n.1) numbers
passes t (line.Jump condition target) = found_passes (found t target)
passes t (line.Short branch target) = found_passes (found t target)
passes t (line.Bytes values) = each_passes (value_defined t) (ValueDefined t) (value_passes t) values
passes t (line.Words fields) = each_passes (is_defined t) (IsDefined t) (tree_passes t) fields
passes t (line.Space size fill) = both_pass (is_defined t size) (fill_defined t fill) (IsDefined t size) (IfSome fill (IsDefined t)) (tree_passes t size) (fill_passes t fill)
passes t (line.Origin e) = tree_passes t e
passes t _ = (λ _. tt, λ _. refl)
