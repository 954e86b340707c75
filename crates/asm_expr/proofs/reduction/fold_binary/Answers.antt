use Rattle.std.proofs.Common.{◌≡◌, None, Ok, ◌∷◌, refl, sym, ap, ◌∙◌, arith}
use Rattle.asm_expr.specs.Private.Folding.{item_fault, leaf_of, unless, joined}
use Rattle.asm_expr.proofs.Spread.{binary_number, binary_other, left_ends, none_of, right_ends, right_root}
use Rattle.asm_expr.proofs.reduction.fold_binary.Goals as goal

pub replace_two-requires-clause-right : goal.replace_two-requires-clause-right
replace_two-requires-clause-right c =
    right_ends c.args.names.now c.args.op c.args.items.now c.before_last-left.result c.last-right.result c.in-Some-leaf_of.leaf (omega (arith, c.requires.two)) c.last-right.ensures
    (sym (c.in-Some-leaf_of.ensures ∙ ap leaf_of c.folded_binary.ensures))

pub replace_two-requires-clause-left : goal.replace_two-requires-clause-left
replace_two-requires-clause-left c =
    left_ends c.args.names.now c.args.op c.args.items.now c.before_last-left.result c.last-right.result c.in-Some-leaf_of.leaf c.requires.two c.before_last-left.ensures c.last-right.ensures
    (sym (c.in-Some-leaf_of.ensures ∙ ap leaf_of c.folded_binary.ensures))

pub returns-in-Some-clause-folds : goal.returns-in-Some-clause-folds
returns-in-Some-clause-folds c = λ a b before is.
    let root = right_root a b before _ c.last-right.result _ is refl c.last-right.ensures in
    ap (λ f. unless f (Ok (joined c.args.names.now c.args.op a b ∷ before))) (ap (item_fault c.args.op) (sym root) ∙ sym c.in-Some.ensures)

pub returns-in-Some-leaf_of-clause-folds : goal.returns-in-Some-leaf_of-clause-folds
returns-in-Some-leaf_of-clause-folds c = λ a b before is.
    let root = right_root a b before _ c.last-right.result _ is refl c.last-right.ensures in
    let sound : item_fault c.args.op c.last-right.result ≡ None = sym c.item_fault.ensures ∙ none_of _ c.in_default.not-Some in (
      joined c.args.names.now c.args.op a b ∷ before,
      ap (λ f. unless f (Ok (joined c.args.names.now c.args.op a b ∷ before))) (ap (item_fault c.args.op) (sym root) ∙ sound),
      binary_number c.args.names.now c.args.op a b before _ _ c.before_last-left.result c.last-right.result _ c.in-Some-leaf_of.leaf is refl c.before_last-left.ensures c.last-right.ensures
          (sym (c.in-Some-leaf_of.ensures ∙ ap leaf_of c.folded_binary.ensures)) c.replace_two.ensures,
    )

pub returns-in-None-clause-folds : goal.returns-in-None-clause-folds
returns-in-None-clause-folds c = λ a b before is.
    let root = right_root a b before _ c.last-right.result _ is refl c.last-right.ensures in
    let sound : item_fault c.args.op c.last-right.result ≡ None = sym c.item_fault.ensures ∙ none_of _ c.in_default.not-Some in (
      joined c.args.names.now c.args.op a b ∷ before,
      ap (λ f. unless f (Ok (joined c.args.names.now c.args.op a b ∷ before))) (ap (item_fault c.args.op) (sym root) ∙ sound),
      binary_other c.args.names.now c.args.op a b before _ _ c.before_last-left.result c.last-right.result _ is refl c.before_last-left.ensures c.last-right.ensures
          (sym (c.in-None.ensures ∙ ap leaf_of c.folded_binary.ensures)) c.push.ensures,
    )
