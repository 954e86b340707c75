use Rattle.std.proofs.Common.{◌≡◌, ◌<◌, ◌+◌, ◌∙◌, ap, sym, subst, arith, ℕ, List, ◌∷◌, drop, get_or, length}
use Rattle.std.proofs.lemmas.List.{drop_more}
use Rattle.asm_expr.specs.Names.{Table, found}
use Rattle.asm_names.specs.Layout.{layout_of}
use Rattle.asm_names.specs.Lines.{taken_of}
use Rattle.asm_names.specs.declared.kind.SourceLine.{SourceLine}
use Rattle.asm_module.specs.Private.Statements.{Takes}
use Rattle.asm_module.proofs.Modules.In_order.{all_stated, goes_on, goes_wrong, none_stated}
use Rattle.asm_module.proofs.statements.stating.state_lines.Goals as goal

-- the line that is read next, and the lines left after it
next : (lines left : List SourceLine) (at : ℕ) (l : SourceLine) → at < length lines → drop at lines ≡ l ∷ left → (l ≡ get_or lines at l) × (left ≡ drop (at + 1) lines)
next lines left at l lt is = let both = sym is ∙ drop_more lines at l lt in (heads _ _ _ _ both, tails _ _ _ _ both) where
  heads : (x y : SourceLine) (xs ys : List SourceLine) → x ∷ xs ≡ y ∷ ys → x ≡ y
  heads x y xs ys e = cc

  tails : (x y : SourceLine) (xs ys : List SourceLine) → x ∷ xs ≡ y ∷ ys → xs ≡ ys
  tails x y xs ys e = cc

pub loop-line-init : goal.loop-line-init
loop-line-init c =
    let gives = c.into_iter-line-iterator.ensures.into_iter_gives in (
      gives.0,
      omega (arith, gives.1, c.args.lines.ok),
      none_stated c.args.grow c.args.table.now c.args.names (layout_of c.args.layout.now) c.args.lines.items c.nothing-stated.result c.nothing-stated.ensures.statements c.nothing-stated.ensures.lines,
    )

pub take-taken-requires : goal.take-taken-requires
take-taken-requires c = λ name none.
    let same : c.set_here.new.self ≡ record c.args.names { here = c.next_at.result } = c.set_here.ensures ∙ ap (λ (t : Table). record t { here = c.next_at.result }) c.loop-line.invariant.2.table in
    c.requires name (sym (ap (λ (t : Table). found t name) same) ∙ none)

pub returns-in-Err : goal.returns-in-Err
returns-in-Err c =
    let lines = c.args.lines.items in
    let is = next lines _ c.loop-line.at c.in-Some.line (omega (arith, c.loop-line.invariant.1, c.in-Some.ensures.steps.1)) (sym c.loop-line.invariant.0 ∙ c.in-Some.ensures.steps.0) in
    let here = c.set_here.ensures in
    let at = c.next_at.ensures in
    goes_wrong c.args.grow c.args.table.now c.args.names (layout_of c.args.layout.now) lines c.loop-line.at c.in-Some.line (omega (arith, c.loop-line.invariant.1, c.in-Some.ensures.steps.1)) is.0 c.loop-line.names c.set_here.new.self c.loop-line.stated c.take-taken.new.self c.in-Err.why c.loop-line.invariant.2 (here ∙ ap (λ n. record c.loop-line.names { here = n }) at)
    (subst (λ r. Takes c.args.grow c.args.table.now c.set_here.new.self (taken_of c.in-Some.line) c.loop-line.stated r c.take-taken.new.self) c.in-Err.is c.take-taken.ensures)

pub overflow_add-at : goal.overflow_add-at
overflow_add-at c = omega (arith, c.loop-line.invariant.1, c.in-Some.ensures.steps.1, c.args.lines.ok)

pub loop-line-preserved : goal.loop-line-preserved
loop-line-preserved c =
    let lines = c.args.lines.items in
    let is = next lines _ c.loop-line.at c.in-Some.line (omega (arith, c.loop-line.invariant.1, c.in-Some.ensures.steps.1)) (sym c.loop-line.invariant.0 ∙ c.in-Some.ensures.steps.0) in (
      is.1,
      omega (arith, c.loop-line.invariant.1, c.in-Some.ensures.steps.1),
      goes_on c.args.grow c.args.table.now c.args.names (layout_of c.args.layout.now) lines c.loop-line.at c.in-Some.line (omega (arith, c.loop-line.invariant.1, c.in-Some.ensures.steps.1)) is.0 c.loop-line.names c.set_here.new.self c.loop-line.stated c.take-taken.new.self c.loop-line.invariant.2
          (c.set_here.ensures ∙ ap (λ n. record c.loop-line.names { here = n }) c.next_at.ensures)
          (subst (λ r. Takes c.args.grow c.args.table.now c.set_here.new.self (taken_of c.in-Some.line) c.loop-line.stated r c.take-taken.new.self) c.in_default.is c.take-taken.ensures),
    )

pub returns : goal.returns
returns c =
    all_stated c.args.grow c.args.table.now c.args.names (layout_of c.args.layout.now) c.args.lines.items c.loop-line.at c.loop-line.names c.loop-line.stated (omega (arith, c.loop-line.invariant.1, c.in-None.ensures.steps.0)) c.loop-line.invariant.2
