use Rattle.std.proofs.Common.{◌≡◌, ◌≤◌, ◌<◌, ◌+◌, ℕ, true, Ok, Err, length, map, get_or, sym, ap, subst, ◌∙◌, arith}
use Rattle.std.proofs.lemmas.List.{length-map}
use Rattle.std.proofs.lemmas.Result.{err_from_is_err_and}
use Rattle.asm_expr.specs.Types.{Item}
use Rattle.asm_parse.specs.Expression.{postfix}
use Rattle.asm_parse.specs.Private.Steps.{arity}
use Rattle.asm_parse.specs.Source.{Operand, source_item}
use Rattle.asm_parse.specs.Values.Postfix.{source_tree}
use Rattle.asm_expr.specs.Settling.{is_known}
use Rattle.asm_expr.specs.Private.Folding.{Folds, fold_all, items_for, item_size}
use Rattle.asm_expr.proofs.Steps.{Settles, settles_start, settles_arity, settles_large, settles_next, settles_refused, settles_end, source_whole, run_source, read_at}
use Rattle.asm_expr.proofs.reduction.reduce.Goals as goal

pub loop-item-init : goal.loop-item-init
loop-item-init c = rw c.new-out.ensures (settles_start _ _)

pub returns-then-size-gt-MOST_ITEMS : goal.returns-then-size-gt-MOST_ITEMS
returns-then-size-gt-MOST_ITEMS c =
    let xs = c.items-item-items.result.now in
    let t = c.args.names.now in
    let x = source_item c.item-item.result in
    let at = read_at xs c.loop-item.item-index c.item-item.result c.item-item.is in
    let whole : postfix (source_tree c.args.parsed.now) ≡ map source_item xs = source_whole _ c.items-item-items.ensures.source ∙ sym c.items-item-items.ensures.items in
    let many : 64 < c.loop-item.size + item_size t x = omega (arith, c.from-size.ensures, c.item_size.ensures) in
    settles_large t (map source_item xs) c.loop-item.item-index c.loop-item.size _ x (source_tree c.args.parsed.now) whole (omega (arith, length-map xs source_item)) c.loop-item.invariant
    (subst (λ y. 64 < c.loop-item.size + item_size t y) (sym at) many)

pub take_item-requires-clause-known : goal.take_item-requires-clause-known
take_item-requires-clause-known c =
    let xs = c.items-item-items.result.now in
    let at = read_at xs c.loop-item.item-index c.item-item.result c.item-item.is in
    let all = subst (λ ys. (k : ℕ) (d : Item Operand) → k < length ys → is_known c.args.names.now (get_or ys k d) ≡ true) (sym c.items-item-items.ensures.items) c.requires in
    ap (is_known c.args.names.now) (sym at) ∙ all c.loop-item.item-index (source_item c.item-item.result) (omega (arith, length-map xs source_item))

pub take_item-requires-clause-operands : goal.take_item-requires-clause-operands
take_item-requires-clause-operands c =
    let xs = c.items-item-items.result.now in
    let x = source_item c.item-item.result in
    let at = read_at xs c.loop-item.item-index c.item-item.result c.item-item.is in
    let left = run_source _ _ c.items-item-items.ensures.source c.items-item-items.ensures.items in
    let enough = settles_arity _ (map source_item xs) c.loop-item.item-index c.loop-item.size _ x _ left.1 (omega (arith, length-map xs source_item)) c.loop-item.invariant in
    omega (arith, enough.1, ap arity at)

pub returns-in_err-take_item : goal.returns-in_err-take_item
returns-in_err-take_item c =
    let xs = c.items-item-items.result.now in
    let t = c.args.names.now in
    let x = source_item c.item-item.result in
    let s = c.loop-item.invariant in
    let at = read_at xs c.loop-item.item-index c.item-item.result c.item-item.is in
    let whole : postfix (source_tree c.args.parsed.now) ≡ map source_item xs = source_whole _ c.items-item-items.ensures.source ∙ sym c.items-item-items.ensures.items in
    let left = run_source _ _ c.items-item-items.ensures.source c.items-item-items.ensures.items in
    let enough = settles_arity _ (map source_item xs) c.loop-item.item-index c.loop-item.size _ x _ left.1 (omega (arith, length-map xs source_item)) s in
    let few : c.loop-item.size + item_size t x ≤ 64 = omega (arith, c.from-size.ensures, c.item_size.ensures) in
    let p = err_from_is_err_and c.from_residual.result c.from_residual.ensures.1 in
    rw (p.1, p.2) (settles_refused t (map source_item xs) c.loop-item.item-index c.loop-item.size _ c.take_item.new.out x (source_tree c.args.parsed.now) c.in_err-take_item.field-0.0 whole
    (omega (arith, length-map xs source_item)) s (subst (λ y. c.loop-item.size + item_size t y ≤ 64) (sym at) few)
    (subst (λ y. Folds (fold_all t (items_for t y) s.now) {A = Unit {0}} (Err c.in_err-take_item.field-0.0) c.take_item.new.out) (sym at)
    (c.in_err-take_item.ensures.folds s.now s.written (subst (λ y. arity y ≤ length s.now) at enough.0))))

pub loop-item-preserved : goal.loop-item-preserved
loop-item-preserved c =
    let xs = c.items-item-items.result.now in
    let t = c.args.names.now in
    let x = source_item c.item-item.result in
    let s = c.loop-item.invariant in
    let at = read_at xs c.loop-item.item-index c.item-item.result c.item-item.is in
    let left = run_source _ _ c.items-item-items.ensures.source c.items-item-items.ensures.items in
    let enough = settles_arity _ (map source_item xs) c.loop-item.item-index c.loop-item.size _ x _ left.1 (omega (arith, length-map xs source_item)) s in
    let few : c.loop-item.size + item_size t x ≤ 64 = omega (arith, c.from-size.ensures, c.item_size.ensures) in
    let done = c.in_ok-take_item.ensures.folds s.now s.written (subst (λ y. arity y ≤ length s.now) at enough.0) in
    let sizes : c.loop-item.size + item_size t (get_or (map source_item xs) c.loop-item.item-index x) ≡ c.loop-item.size + c.from-size.result =
    ap (λ y. c.loop-item.size + item_size t y) at ∙ ap (λ n. c.loop-item.size + n) (sym (c.from-size.ensures ∙ c.item_size.ensures)) in
    subst (λ n. Settles t (map source_item xs) (c.loop-item.item-index + 1) n c.take_item.new.out) sizes
    (settles_next t (map source_item xs) c.loop-item.item-index c.loop-item.size _ c.take_item.new.out x _ done.0 left.1 (omega (arith, length-map xs source_item)) s
    (subst (λ y. c.loop-item.size + item_size t y ≤ 64) (sym at) few) (subst (λ y. fold_all t (items_for t y) s.now ≡ Ok done.0) (sym at) done.1) done.2 (subst (λ y. length c.take_item.new.out ≤ length c.loop-item.out + item_size t y) (sym at) c.in_ok-take_item.ensures.most))

pub returns : goal.returns
returns c =
    let xs = c.items-item-items.result.now in
    let e = source_tree c.args.parsed.now in
    let whole : postfix e ≡ map source_item xs = source_whole _ c.items-item-items.ensures.source ∙ sym c.items-item-items.ensures.items in
    settles_end c.args.names.now (map source_item xs) c.loop-item.item-index c.loop-item.size _ e whole (omega (arith, length-map xs source_item)) c.loop-item.invariant

pub take_item-requires-clause-room : goal.take_item-requires-clause-room
take_item-requires-clause-room c = omega (arith, c.loop-item.invariant.most, c.from-size.ensures, c.item_size.ensures)
