use Rattle.std.proofs.Common.{◌≡◌, ◌%◌, ◌<◌, ◌^◌, Some, slice_index, sym, ap, subst, ◌∙◌, refl, arith}
use Rattle.std.proofs.Math.Nat.{mod-eq_of_lt}
use Rattle.asm_parse.specs.Types.{Item, Atom}
use Rattle.asm_parse.specs.Values.Postfix.{put}
use Rattle.asm_parse.proofs.ValueStack.{leaf_stacked, unary_stacked, binary_stacked}
use Rattle.asm_parse.proofs.values.expr.take_item.Goals as goal

pub returns-in-Leaf-Number-clause-values : goal.returns-in-Leaf-Number-clause-values
returns-in-Leaf-Number-clause-values c = λ values now s p.
    let inner : c.in-Leaf-Number.field-0 ≡ Atom.Number c.in-Leaf-Number.n = rw c.in-Leaf-Number.is at c.in-Leaf-Number.field-0-is in
    let is : c.args.item ≡ Item.Leaf (Atom.Number c.in-Leaf-Number.n) = c.in-Leaf-Number.is ∙ ap Item.Leaf inner in
    leaf_stacked _ (Atom.Number c.in-Leaf-Number.n) values now _ _ _ (omega (arith, c.requires.room)) refl s (subst (λ i. put i values ≡ Some now) is p)

pub returns-in-Leaf-Ref-clause-values : goal.returns-in-Leaf-Ref-clause-values
returns-in-Leaf-Ref-clause-values c = λ values now s p.
    let inner : c.in-Leaf-Ref.field-0 ≡ Atom.Ref c.in-Leaf-Ref.r = rw c.in-Leaf-Ref.is at c.in-Leaf-Ref.field-0-is in
    let is : c.args.item ≡ Item.Leaf (Atom.Ref c.in-Leaf-Ref.r) = c.in-Leaf-Ref.is ∙ ap Item.Leaf inner in
    let fits : slice_index c.args.places.now c.from.result < 2 ^ 16 = omega (arith, c.type_inv.places c.from.result) in
    let read : slice_index c.args.places.now c.from.result ≡ slice_index c.args.places.now c.in-Leaf-Ref.r % 2 ^ 16 =
    sym (mod-eq_of_lt fits) ∙ ap (λ k. slice_index c.args.places.now k % 2 ^ 16) c.from.ensures in
    leaf_stacked _ (Atom.Ref c.in-Leaf-Ref.r) values now _ _ _ (omega (arith, c.requires.room)) read s (subst (λ i. put i values ≡ Some now) is p)

pub returns-in-Unary-clause-values : goal.returns-in-Unary-clause-values
returns-in-Unary-clause-values c = λ values now s p.
    unary_stacked _ c.in-Unary.op values now _ _ _ (omega (arith, c.requires.room)) c.apply_unary.ensures s (subst (λ i. put i values ≡ Some now) c.in-Unary.is p)

pub returns-in-Binary-clause-values : goal.returns-in-Binary-clause-values
returns-in-Binary-clause-values c = λ values now s p.
    binary_stacked _ c.in-Binary.op values now _ _ _ (omega (arith, c.requires.room)) c.apply_binary.ensures s (subst (λ i. put i values ≡ Some now) c.in-Binary.is p)
