-- Properties of an expression, found from its items.
use Rattle.std.proofs.Common.{List, [], ap, arith, map, refl, sum_by, sym, zero-add, ℕ, ◌++◌, ◌+◌, ◌∙◌, ◌∷◌, ◌≡◌}
use Rattle.std.proofs.lemmas.List.Sums.{sum_by-append}
use Rattle.asm_expr.specs.Types.{Item}
use Rattle.asm_parse.specs.Expression.{Expression, Leaf, Prefix, Infix, postfix}
use Rattle.asm_parse.specs.Source.{Operand, AreExpressionItems, source_item}
use Rattle.asm_parse.specs.Values.Postfix.{source_tree}
use Rattle.asm_parse.specs.declared.item.Term.{Term}
use Rattle.asm_expr.proofs.Steps.{source_whole}
use Rattle.asm_expr.specs.Names.{Table}
use Rattle.asm_expr.specs.Settling.{expression_size}
use Rattle.asm_expr.specs.Private.Folding.{item_size}

-- The sizes of the items add up to the size of the whole.
pub sizes : (t : Table) (e : Expression Operand) → sum_by (item_size t) (postfix e) ≡ expression_size t e
sizes t (Leaf operand) = omega arith
sizes t (Prefix op a) = sum_by-append (item_size t) (postfix a) (Item.Unary op ∷ []) ∙ (let s = sizes t a in omega arith)
sizes t (Infix op a b) =
    sum_by-append (item_size t) (postfix a ++ postfix b) (Item.Binary op ∷ []) ∙ (let s = sum_by-append (item_size t) (postfix a) (postfix b) in let u = sizes t a in let v = sizes t b in omega arith)

pub sum_by-cons : {A : Type 0} (f : A → ℕ) (x : A) (xs : List A) → sum_by f (x ∷ xs) ≡ f x + sum_by f xs
sum_by-cons f x xs = sum_by-append f (x ∷ []) xs ∙ ap (λ n. n + sum_by f xs) (zero-add (f x))

sum_by-map : (t : Table) (xs : List (Item Term)) → sum_by (λ i. item_size t (source_item i)) xs ≡ sum_by (item_size t) (map source_item xs)
sum_by-map t [] = refl
sum_by-map t (x ∷ xs) =
    sum_by-cons (λ i. item_size t (source_item i)) x xs ∙ ap (λ n. item_size t (source_item x) + n) (sum_by-map t xs) ∙ sym (sum_by-cons (item_size t) (source_item x) (map source_item xs))

pub size_items : (t : Table) (xs : List (Item Term)) (items : List (Item Operand)) → map source_item xs ≡ items → AreExpressionItems items → sum_by (λ i. item_size t (source_item i)) xs ≡ expression_size t (source_tree items)
size_items t xs items is s = sum_by-map t xs ∙ ap (sum_by (item_size t)) (is ∙ sym (source_whole items s)) ∙ sizes t (source_tree items)
