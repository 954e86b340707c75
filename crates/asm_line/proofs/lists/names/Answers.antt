use Rattle.std.specs.Prelude.{◌++◌, ◌∷◌, [], map}
use Rattle.std.proofs.Common.{sym, ◌∙◌, ap, arith}
use Rattle.std.proofs.lemmas.List.{map-append}
use Rattle.asm_line.proofs.NameLists.{no_name, goes_on}
use Rattle.asm_line.proofs.lists.names.Goals as goal

pub returns-then-not-is_name : goal.returns-then-not-is_name
returns-then-not-is_name c = sym (c.loop-at.invariant.1 ∙ no_name _ _ c.loop-at.at _ c.loop-at-test.true (sym c.is_name.ensures ∙ c.if-not-is_name.true))

pub loop-at-preserved : goal.loop-at-preserved
loop-at-preserved c = (
  omega arith,
  c.loop-at.invariant.1 ∙ goes_on _ _ _ c.loop-at.at _ (omega arith) (sym c.is_name.ensures ∙ c.if-not-is_name.false) (sym c.is_comma.ensures ∙ c.if-not-is_comma.false)
      (ap (λ xs. map (λ name. name.items) xs) c.in_ok-push.ensures.items ∙ map-append _ c.loop-at.all.items _ ∙ ap (λ x. map (λ name. name.items) c.loop-at.all.items ++ x ∷ []) c.in_ok-to_ascii_uppercase.ensures.ok),
)
